-- Values moved behind all others one by one, and put at a place from there.
use Rattle.std.proofs.Common.{ℕ, Bool, true, false, cond, not, ◌||◌, ◌&&◌, ◌≡◌, List, [], ◌∷◌, ◌++◌, filter, bytes_eq, refl, sym, ◌∙◌, ap, append-nil, append_assoc}
use Rattle.std.proofs.lemmas.List.Elements.{filter-append}
use Rattle.std.proofs.lemmas.List.Concat.{flat_map-append}
use Rattle.std.proofs.lemmas.Slice.Eq.{bytes_eq-Decides}
use Rattle.aw_dim.specs.DimensionState.{Entry, DimensionState}
use Rattle.dim_maintain.specs.Maintained.{is_among, others, named, in_order, deleted}
use Rattle.dim_maintain.proofs.ByName.{among_one}

-- ---- lists without some names

pub among-append : (names more : List (List ℕ)) (name : List ℕ) → is_among (names ++ more) name ≡ (is_among names name || is_among more name)
among-append [] more name = refl
among-append (first ∷ names) more name = ap (λ (b : Bool). bytes_eq first name || b) (among-append names more name) ∙ either (bytes_eq first name) (is_among names name) (is_among more name)
  where
    either : (a b c : Bool) → (a || (b || c)) ≡ ((a || b) || c)
    either true b c = refl
    either false b c = refl

filter-filter : {X : Type 0} (p q r : X → Bool) (xs : List X) → ((x : X) → r x ≡ (q x && p x)) → filter p (filter q xs) ≡ filter r xs
filter-filter p q r [] h = refl
filter-filter {X = X} p q r (x ∷ xs) h = by (q x) (p x) refl refl (filter-filter p q r xs h)
  where
    by : (a b : Bool) → q x ≡ a → p x ≡ b → filter p (filter q xs) ≡ filter r xs → filter p (cond (q x) (x ∷ filter q xs) (filter q xs)) ≡ cond (r x) (x ∷ filter r xs) (filter r xs)
    by true true e f rest = rw (h x, e, f) (ap (λ (ys : List X). x ∷ ys) rest)
    by true false e f rest = rw (h x, e, f) rest
    by false b e f rest = rw (h x, e) rest

not_either : (a b : Bool) → not (a || b) ≡ (not a && not b)
not_either true b = refl
not_either false b = refl

-- those without some names and then without one more
pub others_more : (names : List (List ℕ)) (name : List ℕ) (entries : List Entry) → others (name ∷ []) (others names entries) ≡ others (names ++ name ∷ []) entries
others_more names name entries =
    filter-filter (λ (x : Entry). not (is_among (name ∷ []) x.1)) (λ (x : Entry). not (is_among names x.1)) (λ (x : Entry). not (is_among (names ++ name ∷ []) x.1)) entries
    (λ x. ap not (among-append names (name ∷ []) x.1) ∙ not_either (is_among names x.1) (is_among (name ∷ []) x.1))

pub deleted_none : (values : DimensionState) → values ≡ deleted values []
deleted_none values = (let same = every values.entries in λ i. record { entries = same i; next = values.next })
  where
    every : (entries : List Entry) → entries ≡ others [] entries
    every [] = refl
    every (entry ∷ entries) = ap (λ (xs : List Entry). entry ∷ xs) (every entries)

pub deleted_more : (values : DimensionState) (names : List (List ℕ)) (name : List ℕ) → deleted (deleted values names) (name ∷ []) ≡ deleted values (names ++ name ∷ [])
deleted_more values names name = (let same = others_more names name values.entries in λ i. record { entries = same i; next = values.next })

-- ---- one more behind the others

module _ (values : DimensionState) where
  -- the values of some names, behind the others
  abbrev pub behind_all : List (List ℕ) → DimensionState
  behind_all names = record { entries = others names values.entries ++ in_order names values.entries; next = values.next }

module _ (name : List ℕ) where
  abbrev is_other : Entry → Bool
  is_other x = not (is_among (name ∷ []) x.1)

  abbrev has : Entry → Bool
  has x = bytes_eq x.1 name

  -- the value of another name isn't the one of this name
  other_named : (names : List (List ℕ)) (entries : List Entry) → is_among names name ≡ false → (others (name ∷ []) (in_order names entries) ≡ in_order names entries) × (named (in_order names entries) name ≡ [])
  other_named [] entries once = (refl, refl)
  other_named (first ∷ names) entries once =
      let apart = both (bytes_eq first name) (is_among names name) once in
      let rest = other_named names entries apart.1 in (
        filter-append is_other (named entries first) (in_order names entries) ∙ ap (λ (xs : List Entry). xs ++ others (name ∷ []) (in_order names entries)) (kept entries first apart.0) ∙ ap (λ (xs : List Entry). named entries first ++ xs) rest.0,
        filter-append has (named entries first) (in_order names entries) ∙ ap (λ (xs : List Entry). xs ++ named (in_order names entries) name) (gone entries first apart.0) ∙ rest.1,
      )
    where
      both : (a b : Bool) → (a || b) ≡ false → (a ≡ false) × (b ≡ false)
      both true b h = absurd cc
      both false b h = (refl, h)

      unlike : (first : List ℕ) → bytes_eq first name ≡ false → (x : Entry) → bytes_eq x.1 first ≡ true → bytes_eq x.1 name ≡ false
      unlike first ne x e = ap (λ (n : List ℕ). bytes_eq n name) ((bytes_eq-Decides x.1 first).0 e) ∙ ne

      kept : (entries : List Entry) (first : List ℕ) → bytes_eq first name ≡ false → others (name ∷ []) (named entries first) ≡ named entries first
      kept [] first ne = refl
      kept (x ∷ entries) first ne = by (bytes_eq x.1 first) refl (kept entries first ne)
        where
          by : (b : Bool) → bytes_eq x.1 first ≡ b → others (name ∷ []) (named entries first) ≡ named entries first → others (name ∷ []) (cond b (x ∷ named entries first) (named entries first)) ≡ cond b (x ∷ named entries first) (named entries first)
          by false e rest = rest
          by true e rest = rw (among_one name x.1 ∙ unlike first ne x e) (ap (λ (xs : List Entry). x ∷ xs) rest)

      gone : (entries : List Entry) (first : List ℕ) → bytes_eq first name ≡ false → named (named entries first) name ≡ []
      gone [] first ne = refl
      gone (x ∷ entries) first ne = by (bytes_eq x.1 first) refl (gone entries first ne)
        where
          by : (b : Bool) → bytes_eq x.1 first ≡ b → named (named entries first) name ≡ [] → named (cond b (x ∷ named entries first) (named entries first)) name ≡ []
          by false e rest = rest
          by true e rest = rw (unlike first ne x e) rest

  -- a name that isn't among some names the others have too
  named_others : (names : List (List ℕ)) (entries : List Entry) → is_among names name ≡ false → named (others names entries) name ≡ named entries name
  named_others names entries once =
      filter-filter has (λ (x : Entry). not (is_among names x.1)) has entries
      (λ x. by x (has x) refl)
    where
      by : (x : Entry) (b : Bool) → has x ≡ b → b ≡ (not (is_among names x.1) && b)
      by x true e = sym (ap (λ (c : Bool). not c && true) (ap (is_among names) ((bytes_eq-Decides x.1 name).0 e) ∙ once))
      by x false e = sym (no (not (is_among names x.1)))
        where
          no : (b : Bool) → (b && false) ≡ false
          no true = refl
          no false = refl

  pub behind_more : (values : DimensionState) (names : List (List ℕ)) → is_among names name ≡ false → (made : DimensionState) → made ≡ behind_all values names →
      record { entries = others (name ∷ []) made.entries ++ named made.entries name; next = made.next } ≡ behind_all values (names ++ name ∷ [])
  behind_more values names once made is =
      let rest = others names values.entries in
      let these = in_order names values.entries in
      let apart = other_named names values.entries once in
      let same : others (name ∷ []) (rest ++ these) ++ named (rest ++ these) name ≡ (behind_all values (names ++ name ∷ [])).entries =
      ap (λ (xs : List Entry). xs ++ named (rest ++ these) name) (filter-append is_other rest these ∙ ap (λ (xs : List Entry). xs ++ others (name ∷ []) these) (others_more names name values.entries) ∙ ap (λ (xs : List Entry). others (names ++ name ∷ []) values.entries ++ xs) apart.0)
      ∙ ap (λ (xs : List Entry). others (names ++ name ∷ []) values.entries ++ these ++ xs) (filter-append has rest these ∙ ap (λ (xs : List Entry). xs ++ named these name) (named_others names values.entries once) ∙ ap (λ (xs : List Entry). named values.entries name ++ xs) apart.1 ∙ append-nil (named values.entries name))
      ∙ append_assoc (others (names ++ name ∷ []) values.entries) these (named values.entries name)
      ∙ ap (λ (xs : List Entry). others (names ++ name ∷ []) values.entries ++ xs) (ap (λ (xs : List Entry). these ++ xs) (sym (append-nil (named values.entries name))) ∙ sym (flat_map-append (named values.entries) names (name ∷ []))) in
      ap (λ (m : DimensionState). (let left : DimensionState = record { entries = others (name ∷ []) m.entries ++ named m.entries name; next = m.next } in left)) is
      ∙ (λ i. record { entries = same i; next = values.next })

pub behind_none_yet : (values : DimensionState) → values ≡ behind_all values []
behind_none_yet values = deleted_none values ∙ (let same = sym (append-nil (others [] values.entries)) in λ i. record { entries = same i; next = values.next })
