-- The laws of the rules.
use Rattle.std.proofs.Common.{◌≡◌, ◌∙◌, ℕ, ◌+◌, Bool, true, false, not, ◌||◌, ◌&&◌, cond, eqb, eq-eqb, List, [], ◌∷◌, ◌++◌, length, refl, sym, ap, subst, inl, inr, ⊎_elim, arith}
use Rattle.std.specs.List.{filter}
use Rattle.std.proofs.lemmas.Bool.{false≢true, and_parts, cases_Bool, eqb-true}
use Rattle.std.proofs.lemmas.Bool.Decides.{eqb_tells}
use Rattle.aw_dim.specs.DimensionState.{DimensionState}
use Rattle.aw_status.specs.Rules.{is_among, all_slots, joined, kept, complement, AreValues}
use Rattle.aw_status.specs.Laws.{KeepingAndRemovingPart, IsThinned, KeepingKeepsTheOrder, AreOnce, AddingNeverRepeats, ComplementOfComplement, RulesSelectValues}
use Rattle.aw_status.proofs.Below.{among-append, joined-among}
use Rattle.aw_status.proofs.Choosing.{filter-same}

-- ---- what is among a filter

or-and : (a b c : Bool) → (a ≡ true → c ≡ true) → (a || (b && c)) ≡ ((a || b) && c)
or-and true b true h = refl
or-and true b false h = absurd (false≢true (h refl))
or-and false b c h = refl

and-lost : (a b c : Bool) → (a ≡ true → c ≡ false) → (b && c) ≡ ((a || b) && c)
and-lost true true c h = refl
and-lost true false c h = sym (h refl)
and-lost false b c h = refl

filter-among : (p : ℕ → Bool) (xs : List ℕ) (slot : ℕ) → is_among (filter p xs) slot ≡ (is_among xs slot && p slot)
filter-among p [] slot = refl
filter-among p (x ∷ xs) slot =
    ⊎_elim
    (λ yes. ap (λ (t : Bool). is_among (cond t (x ∷ filter p xs) (filter p xs)) slot) yes ∙ ap (λ (t : Bool). eqb x slot || t) (filter-among p xs slot)
    ∙ or-and (eqb x slot) (is_among xs slot) (p slot) (λ e. ap p (sym (eqb-true x slot e)) ∙ yes))
    (λ no. ap (λ (t : Bool). is_among (cond t (x ∷ filter p xs) (filter p xs)) slot) no ∙ filter-among p xs slot
    ∙ and-lost (eqb x slot) (is_among xs slot) (p slot) (λ e. ap p (sym (eqb-true x slot e)) ∙ no))
    (cases_Bool (p x))

-- ---- KEEP and REMOVE part

parted : (a b : Bool) → a ≡ ((a && b) || (a && not b))
parted true true = refl
parted true false = refl
parted false b = refl

never-both : (a b : Bool) → (a && b) ≡ true → (a && not b) ≡ true → ⊥
never-both true true h k = false≢true k
never-both true false h k = false≢true h
never-both false b h k = false≢true h

lengths : (p : ℕ → Bool) (xs : List ℕ) → length (filter p xs) + length (filter (λ (x : ℕ). not (p x)) xs) ≡ length xs
lengths p [] = refl
lengths p (x ∷ xs) =
    let rest = lengths p xs in
    let no_p : ℕ → Bool = λ x. not (p x) in
    ⊎_elim
    (λ yes. ap (λ (t : Bool). length (cond t (x ∷ filter p xs) (filter p xs)) + length (cond (not t) (x ∷ filter no_p xs) (filter no_p xs))) yes ∙ omega (arith, rest))
    (λ no. ap (λ (t : Bool). length (cond t (x ∷ filter p xs) (filter p xs)) + length (cond (not t) (x ∷ filter no_p xs) (filter no_p xs))) no ∙ omega (arith, rest))
    (cases_Bool (p x))

pub parts : KeepingAndRemovingPart
parts status list =
    let p : ℕ → Bool = λ slot. is_among list slot in
    let no_p : ℕ → Bool = λ slot. not (is_among list slot) in
    record {
      either = λ slot. parted (is_among status slot) (p slot) ∙ ap (λ (t : Bool). t || (is_among status slot && no_p slot)) (sym (filter-among p status slot)) ∙ ap (λ (t : Bool). is_among (kept status list) slot || t) (sym (filter-among no_p status slot));
      not_both = λ slot k r. never-both (is_among status slot) (p slot) (sym (filter-among p status slot) ∙ k) (sym (filter-among no_p status slot) ∙ r);
      count = lengths p status;
    }

-- ---- KEEP keeps the order

thin-more : (ys xs : List ℕ) (x : ℕ) → IsThinned ys xs → IsThinned ys (x ∷ xs)
thin-more [] xs x h = tt
thin-more (y ∷ ys) xs x h = inr h

thinned : (p : ℕ → Bool) (xs : List ℕ) → IsThinned (filter p xs) xs
thinned p [] = tt
thinned p (x ∷ xs) =
    ⊎_elim
    (λ yes. subst (λ (t : Bool). IsThinned (cond t (x ∷ filter p xs) (filter p xs)) (x ∷ xs)) (sym yes) (inl (refl, thinned p xs)))
    (λ no. subst (λ (t : Bool). IsThinned (cond t (x ∷ filter p xs) (filter p xs)) (x ∷ xs)) (sym no) (thin-more (filter p xs) xs x (thinned p xs)))
    (cases_Bool (p x))

pub keeps-order : KeepingKeepsTheOrder
keeps-order = (
  λ status list. thinned (λ slot. is_among list slot) status,
  λ status list other same. filter-same (λ slot. is_among list slot) (λ slot. is_among other slot) status (λ slot is. same slot),
)

-- ---- ADD never repeats

once-push : (xs : List ℕ) (slot : ℕ) → AreOnce xs → is_among xs slot ≡ false → AreOnce (xs ++ slot ∷ [])
once-push [] slot once new = (refl, tt)
once-push (x ∷ xs) slot once new =
    let differs : eqb x slot ≡ false = first-false (eqb x slot) (is_among xs slot) new in
    let rest : is_among xs slot ≡ false = second-false (eqb x slot) (is_among xs slot) new in
    let apart : eqb slot x ≡ false = ⊎_elim (λ same. absurd (false≢true (sym differs ∙ ap (λ (n : ℕ). eqb n slot) (sym same.1) ∙ eq-eqb slot slot refl))) (λ other. other.0) (eqb_tells slot x) in
    (among-append xs (slot ∷ []) x ∙ ap (λ (t : Bool). t || (eqb slot x || false)) once.0 ∙ ap (λ (t : Bool). t || false) apart, once-push xs slot once.1 rest)
  where
    first-false : (a b : Bool) → (a || b) ≡ false → a ≡ false
    first-false true b h = h
    first-false false b h = refl

    second-false : (a b : Bool) → (a || b) ≡ false → b ≡ false
    second-false true b h = absurd (false≢true (sym h))
    second-false false b h = h

pub once : AddingNeverRepeats
once status [] h = h
once status (x ∷ list) h =
    once (cond (is_among status x) status (status ++ x ∷ [])) list
    (⊎_elim (λ yes. subst (λ (t : Bool). AreOnce (cond t status (status ++ x ∷ []))) (sym yes) h) (λ no. subst (λ (t : Bool). AreOnce (cond t status (status ++ x ∷ []))) (sym no) (once-push status x h no)) (cases_Bool (is_among status x)))

-- ---- COMPLEMENT

twice : (a b : Bool) → a ≡ true → not (a && not b) ≡ b
twice true true h = refl
twice true false h = refl
twice false b h = absurd (false≢true h)

pub complement-twice : ComplementOfComplement
complement-twice values list =
    let all : List ℕ = all_slots values in
    let no_p : ℕ → Bool = λ slot. not (is_among list slot) in
    filter-same (λ slot. not (is_among (complement values list) slot)) (λ slot. is_among list slot) all
    (λ slot is. ap not (filter-among no_p all slot) ∙ twice (is_among all slot) (is_among list slot) is)

-- ---- values of the dimension

filter-values : (values : DimensionState) (p : ℕ → Bool) (xs : List ℕ) → AreValues values xs → AreValues values (filter p xs)
filter-values values p xs are slot h = are slot (and_parts (is_among xs slot) (p slot) (sym (filter-among p xs slot) ∙ h)).0

joined-values : (values : DimensionState) (status list : List ℕ) → AreValues values status → AreValues values list → AreValues values (joined status list)
joined-values values status list are more slot h = ⊎_elim (are slot) (more slot) (joined-among status list slot h)

pub selects : RulesSelectValues
selects values status list are more = record {
  to = joined-values values [] list (λ slot h. absurd (false≢true h)) more;
  add = joined-values values status list are more;
  keep = filter-values values (λ slot. is_among list slot) status are;
  remove = filter-values values (λ slot. not (is_among list slot)) status are;
  complement_is = filter-values values (λ slot. not (is_among list slot)) (all_slots values) (λ slot h. h);
}
