-- Totals over views, prefixes, and the entries of one caller.
use Rattle.std.proofs.Common.{◌≡◌, ◌≢◌, ℕ, zero, suc, ◌+◌, ◌<◌, ◌≤◌, Bool, true, false, cond, eqb, List, [], ◌∷◌, ◌++◌, length, set, sym, refl, ap, ◌∙◌, subst, ⊎_elim, arith, Option, Some, None, eq-eqb, ne_eqb, le-ltb, lt-ltb}
use mathlib.Core.Logic.{dite}
use mathlib.Core.Option.{some, some-injective, some-ne-none}
use native.Mathlib.Decide.{ℕ_discrete, dec_le}
use lib.ListN.{get_elem?}
use Rattle.atomic_table.proofs.Lists.{at_set}
use Rattle.mv_desk.specs.declared.history.Call.{Call}
use Rattle.mv_desk.specs.declared.view.Caller.{Caller}
use Rattle.mv_desk.specs.History.{StartsWith, calls_by}
use Rattle.mv_desk.specs.inside.Rule.{total, times, AreOf, Below, once_below}

pub unsome : Option ℕ → ℕ
unsome None = 0
unsome (Some d) = d

module _ {A : Type 0} (f : A → ℕ) where
  pub total_set : (xs : List A) (i : ℕ) (v w : A) → get_elem? xs i ≡ some v → total f (set xs i w) + f v ≡ total f xs + f w
  total_set [] i v w at = absurd (some-ne-none v (sym at))
  total_set (x ∷ xs) zero v w at = let e : f x ≡ f v = ap f (some-injective x v at) in omega arith
  total_set (x ∷ xs) (suc i) v w at = let t = total_set xs i v w at in omega arith

  pub total_one : (xs : List A) (i : ℕ) (v : A) → get_elem? xs i ≡ some v → f v ≤ total f xs
  total_one [] i v at = absurd (some-ne-none v (sym at))
  total_one (x ∷ xs) zero v at = let e : f x ≡ f v = ap f (some-injective x v at) in omega arith
  total_one (x ∷ xs) (suc i) v at = let t = total_one xs i v at in omega arith

  pub total_two : (xs : List A) (i j : ℕ) (v w : A) → i ≢ j → get_elem? xs i ≡ some v → get_elem? xs j ≡ some w → f v + f w ≤ total f xs
  total_two [] i j v w ne at at' = absurd (some-ne-none v (sym at))
  total_two (x ∷ xs) zero zero v w ne at at' = absurd (ne refl)
  total_two (x ∷ xs) zero (suc j) v w ne at at' = let e : f x ≡ f v = ap f (some-injective x v at) in let t = total_one xs j w at' in omega arith
  total_two (x ∷ xs) (suc i) zero v w ne at at' = let e : f x ≡ f w = ap f (some-injective x w at') in let t = total_one xs i v at in omega arith
  total_two (x ∷ xs) (suc i) (suc j) v w ne at at' = let t = total_two xs i j v w (λ e. ne (ap suc e)) at at' in omega arith

pub total_le : {A : Type 0} (f g : A → ℕ) (xs : List A) → ((i : ℕ) (v : A) → get_elem? xs i ≡ some v → f v ≤ g v) → total f xs ≤ total g xs
total_le f g [] h = omega arith
total_le f g (x ∷ xs) h = let t = total_le f g xs (λ i v at. h (suc i) v at) in let u : f x ≤ g x = h 0 x refl in omega arith

pub total_snoc : {A : Type 0} (f : A → ℕ) (xs : List A) (x : A) → total f (xs ++ x ∷ []) ≡ total f xs + f x
total_snoc f [] x = omega arith
total_snoc f (y ∷ ys) x = let t = total_snoc f ys x in omega arith

pub total_none : {A : Type 0} (f : A → ℕ) (xs : List A) → ((j : ℕ) (u : A) → get_elem? xs j ≡ some u → f u ≡ 0) → total f xs ≡ 0
total_none f [] h = refl
total_none f (x ∷ xs) h = let t = total_none f xs (λ j u at. h (suc j) u at) in let z : f x ≡ 0 = h 0 x refl in omega arith

pub total_only : {A : Type 0} (f : A → ℕ) (xs : List A) (i : ℕ) (v : A) → get_elem? xs i ≡ some v → ((j : ℕ) (u : A) → j ≢ i → get_elem? xs j ≡ some u → f u ≡ 0) → total f xs ≡ f v
total_only f [] i v at h = absurd (some-ne-none v (sym at))
total_only f (x ∷ xs) zero v at h = let e : f x ≡ f v = ap f (some-injective x v at) in let t = total_none f xs (λ j u a. h (suc j) u (λ z. absurd (let z' = z in omega arith)) a) in omega arith
total_only f (x ∷ xs) (suc i) v at h = let z : f x ≡ 0 = h 0 x (λ e. absurd (let e' = e in omega arith)) refl in let t = total_only f xs i v at (λ j u ne a. h (suc j) u (λ e. ne (omega arith)) a) in omega arith

module _ {A : Type 0} where
  -- a fact of each element, after a change of one
  pub each_set : (K : ℕ → A → Type 0) (xs : List A) (me : ℕ) (w : A) → K me w → ((j : ℕ) (d : A) → j ≢ me → get_elem? xs j ≡ some d → K j d) → (j : ℕ) (d : A) → get_elem? (set xs me w) j ≡ some d → K j d
  each_set K xs me w mine others j d e = ⊎_elim (λ (t : (j ≡ me) × (w ≡ d)). subst (λ (x : ℕ × A). K x.0 x.1) (λ i. (sym t.0 i, t.1 i)) mine)
      (λ (t : (j ≢ me) × (get_elem? xs j ≡ some d)). others j d t.0 t.1) (at_set xs me j w d e)

  pub here : (xs : List A) (i : ℕ) (v w : A) → get_elem? xs i ≡ some v → get_elem? (set xs i w) i ≡ some w
  here [] i v w at = absurd (some-ne-none v (sym at))
  here (x ∷ xs) zero v w at = refl
  here (x ∷ xs) (suc i) v w at = here xs i v w at

  pub assoc : (xs ys zs : List A) → (xs ++ ys) ++ zs ≡ xs ++ (ys ++ zs)
  assoc [] ys zs = refl
  assoc (x ∷ xs) ys zs = ap (λ l. x ∷ l) (assoc xs ys zs)

  pub starts_longer : (log seen more : List A) → StartsWith log seen → StartsWith (log ++ more) seen
  starts_longer log seen more h = (h.0 ++ more, ap (λ l. l ++ more) h.1 ∙ assoc seen h.0 more)

module _ {E R : Type 0} where
  snoc_if : (b : Bool) (c : Call E R) (l k m : List (Call E R)) → l ≡ k ++ m → cond b (c ∷ l) l ≡ cond b (c ∷ k) k ++ m
  snoc_if true c l k m e = ap (λ r. c ∷ r) e
  snoc_if false c l k m e = e

  same_if : (b : Bool) (c : Call E R) (l k : List (Call E R)) → l ≡ k → cond b (c ∷ l) l ≡ cond b (c ∷ k) k
  same_if true c l k e = ap (λ r. c ∷ r) e
  same_if false c l k e = e

  pub calls_snoc : (n : ℕ) (log : List (Call E R)) (call : Call E R) → n ≡ call.by → calls_by n (log ++ call ∷ []) ≡ calls_by n log ++ call ∷ []
  calls_snoc n [] call e = rw (eq-eqb n call.by e) refl
  calls_snoc n (c ∷ cs) call e = snoc_if (eqb n c.by) c (calls_by n (cs ++ call ∷ [])) (calls_by n cs) (call ∷ []) (calls_snoc n cs call e)

  pub calls_other : (n : ℕ) (log : List (Call E R)) (call : Call E R) → n ≢ call.by → calls_by n (log ++ call ∷ []) ≡ calls_by n log
  calls_other n [] call ne = rw (ne_eqb n call.by ne) refl
  calls_other n (c ∷ cs) call ne = same_if (eqb n c.by) c (calls_by n (cs ++ call ∷ [])) (calls_by n cs) (calls_other n cs call ne)

  pub times_here : (n : ℕ) (c : Caller E R) (cs : List (Caller E R)) → n ≡ c.number → 1 ≤ times n (c ∷ cs)
  times_here n c cs e = rw (eq-eqb n c.number e) (omega arith)

  -- callers of other numbers keep what they have
  pub are_longer : (log : List (Call E R)) (call : Call E R) (cs : List (Caller E R)) → times call.by cs ≡ 0 → AreOf log cs → AreOf (log ++ call ∷ []) cs
  are_longer log call [] away h = tt
  are_longer log call (c ∷ cs) away h =
      let rest : times call.by cs ≡ 0 = omega arith in
      let other : c.number ≢ call.by = λ e. absurd (let t = times_here call.by c cs (sym e) in omega arith) in (
        (starts_longer log c.seen (call ∷ []) h.0.0, h.0.1 ∙ sym (calls_other c.number log call other)),
        are_longer log call cs rest h.1,
      )

  pub below_snoc : (n : ℕ) (log : List (Call E R)) (call : Call E R) → call.by < n → Below n log → Below n (log ++ call ∷ [])
  below_snoc n [] call lt h = (lt, tt)
  below_snoc n (c ∷ cs) call lt h = (h.0, below_snoc n cs call lt h.1)

  pub below_more : (n m : ℕ) (log : List (Call E R)) → n ≤ m → Below n log → Below m log
  below_more n m [] le h = tt
  below_more n m (c ∷ cs) le h = ((let b = h.0 in omega arith), below_more n m cs le h.1)

  -- a number that isn't below has no entries
  pub no_calls : (n m : ℕ) (log : List (Call E R)) → n ≤ m → Below n log → calls_by m log ≡ []
  no_calls n m [] le h = refl
  no_calls n m (c ∷ cs) le h = rw (ne_eqb m c.by (λ e. absurd (let b = h.0 in omega arith))) (no_calls n m cs le h.1)

  pub times_append : (n : ℕ) (xs ys : List (Caller E R)) → times n (xs ++ ys) ≡ times n xs + times n ys
  times_append n [] ys = let b : ℕ = times n ys in let r : b ≡ 0 + b = omega arith in r
  times_append n (c ∷ cs) ys = let t = times_append n cs ys in let one : ℕ = cond (eqb n c.number) 1 0 in let t' : times n (cs ++ ys) ≡ times n cs + times n ys = t in ap (λ (x : ℕ). one + x) t' ∙ (let a : ℕ = times n cs in let b : ℕ = times n ys in let r : one + (a + b) ≡ one + a + b = omega arith in r)

  pub are_append : (log : List (Call E R)) (xs ys : List (Caller E R)) → AreOf log xs → AreOf log ys → AreOf log (xs ++ ys)
  are_append log [] ys h g = g
  are_append log (c ∷ cs) ys h g = (h.0, are_append log cs ys h.1 g)

  pub times_none : (n : ℕ) (xs : List (Caller E R)) → length xs ≡ 0 → times n xs ≡ 0
  times_none n [] e = refl
  times_none n (c ∷ cs) e = absurd (omega arith)

-- one more number
pub once_next : (n c : ℕ) → once_below n c + (cond (eqb n c) 1 0 + 0) ≡ once_below n (c + 1)
once_next n c = dite (ℕ_discrete n c)
    (λ e. rw (le-ltb n c (omega arith), eq-eqb n c e, lt-ltb n (c + 1) (omega arith)) refl)
    (λ ne. dite (dec_le (suc n) c)
    (λ lt. rw (lt-ltb n c lt, ne_eqb n c ne, lt-ltb n (c + 1) (omega arith)) refl)
    (λ ge. rw (le-ltb n c (omega arith), ne_eqb n c ne, le-ltb n (c + 1) (omega arith)) refl))

pub once_zero : (n : ℕ) → once_below n 0 ≡ 0
once_zero n = ap (λ (b : Bool). cond b 1 0) (le-ltb n 0 (omega arith))
