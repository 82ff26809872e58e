-- What the seats of all passes, put together, say of the passes; and which number is missing where there are too few.
use Rattle.std.proofs.Common.{◌≡◌, ◌≢◌, ℕ, zero, suc, ◌+◌, ◌<◌, ◌≤◌, Bool, true, false, cond, eqb, ltb, List, [], ◌∷◌, map, length, sym, refl, ap, ◌∙◌, subst, ⊎_elim, ◌⊎◌, inl, inr, arith, eq-eqb, ne_eqb, lt-ltb}
use Rattle.std.specs.List.{AllByRecursion}
use Rattle.std.proofs.lemmas.List.Elements.{All-from_recursion, recursion_from_All}
use mathlib.Core.Logic.{dite}
use native.Mathlib.Decide.{ℕ_discrete}
use Rattle.mv_desk.specs.declared.history.Call.{Call}
use Rattle.mv_desk.specs.declared.facts.DeskFacts.{DeskFacts}
use Rattle.mv_desk.specs.declared.facts.PassFacts.{PassFacts}
use Rattle.mv_desk.specs.declared.view.Caller.{Caller}
use Rattle.mv_desk.specs.Passes.{Fits, IsMissing, ClosesAs}
use Rattle.mv_desk.specs.inside.Rule.{times, AreOf, Below, once_below, Whole}
use Rattle.mv_desk.specs.inside.Seats.{caller_of}
use Rattle.mv_desk.proofs.Lists.{once_next}

-- A list of fewer than n numbers lacks one of those below n
abbrev Lacks : ℕ → List ℕ → Type 0
Lacks k xs = AllByRecursion (λ (x : ℕ). x ≢ k) xs

-- how many are this number
named : ℕ → List ℕ → ℕ
named n [] = 0
named n (x ∷ xs) = cond (eqb x n) 1 0 + named n xs

-- how many are below this number
within : ℕ → List ℕ → ℕ
within n [] = 0
within n (x ∷ xs) = once_below x n + within n xs

none_named : (n : ℕ) (xs : List ℕ) → named n xs ≡ 0 → Lacks n xs
unfolding named
none_named n [] h = tt
none_named n (x ∷ xs) h = (
  (λ is. absurd (let z : ◌≡◌ {A = ℕ} (cond (eqb x n) 1 0) 1 = ap (λ (b : Bool). cond b 1 0) (eq-eqb x n is) in omega arith)),
  none_named n xs (omega arith),
)

within_next : (n : ℕ) (xs : List ℕ) → within (n + 1) xs ≡ within n xs + named n xs
unfolding within named
within_next n [] = refl
within_next n (x ∷ xs) = let a = once_next x n in let b = within_next n xs in omega arith

at_most_one : (n m : ℕ) → once_below n m ≤ 1
at_most_one n m = by_bit (ltb n m)
  where
    by_bit : (b : Bool) → cond b 1 0 ≤ 1
    by_bit true = omega arith
    by_bit false = omega arith

within_all : (n : ℕ) (xs : List ℕ) → within n xs ≤ length xs
unfolding within
within_all n [] = omega arith
within_all n (x ∷ xs) = let a = at_most_one x n in let b = within_all n xs in omega arith

lacks_or : (n : ℕ) (xs : List ℕ) → ((k : ℕ) × (k < n) × Lacks k xs) ⊎ (n ≤ within n xs)
lacks_or zero xs = inr (omega arith)
lacks_or (suc n) xs = ⊎_elim
    (λ (t : (k : ℕ) × (k < n) × Lacks k xs). inl (t.0, (let l = t.1 in omega arith), t.2))
    (λ (le : n ≤ within n xs). dite (ℕ_discrete (named n xs) 0)
    (λ z. inl (n, omega arith, none_named n xs z))
    (λ some. inr (let w = within_next n xs in let e : within (suc n) xs ≡ within (n + 1) xs = ap (λ (k : ℕ). within k xs) (omega arith) in let some' : 1 ≤ named n xs = omega arith in omega arith)))
    (lacks_or n xs)

lacks : (n : ℕ) (xs : List ℕ) → length xs < n → (k : ℕ) × (k < n) × Lacks k xs
lacks n xs few = ⊎_elim
    (λ (t : (k : ℕ) × (k < n) × Lacks k xs). t)
    (λ (le : n ≤ within n xs). absurd (let w = within_all n xs in omega arith))
    (lacks_or n xs)

module _ {E R : Type 0} where
  below : (n : ℕ) (log : List (Call E R)) → Below n log → AllByRecursion (λ (call : Call E R). call.by < n) log
  below n [] h = tt
  below n (c ∷ cs) h = (h.0, below n cs h.1)

module _ {S E R : Type 0} where
  many : (ps : List (PassFacts S E R)) → length (map caller_of ps) ≡ length ps
  many [] = refl
  many (p ∷ ps) = ap suc (many ps)

  fits : (log : List (Call E R)) (ps : List (PassFacts S E R)) → AreOf log (map caller_of ps) → AllByRecursion (Fits log) ps
  fits log [] h = tt
  fits log (p ∷ ps) h = (h.0, fits log ps h.1)

  pub whole_of : (step : S → E → R → S → Type 0) (desk : DeskFacts S) (ps : List (PassFacts S E R)) (o : S) (most : ℕ) (cs : List (Caller E R)) (m : S) → o ≡ desk.opening → most ≡ desk.callers → cs ≡ map caller_of ps
      → Whole step o most cs m → Whole step desk.opening desk.callers (map caller_of ps) m
  whole_of step desk ps o most cs m a b c h = subst (λ (x : S × ℕ × List (Caller E R)). Whole step x.0 x.1 x.2 m) (λ i. (a i, b i, c i)) h

  pub closed : (step : S → E → R → S → Type 0) (desk : DeskFacts S) (ps : List (PassFacts S E R)) (m : S) → Whole step desk.opening desk.callers (map caller_of ps) m → (length ps ≡ desk.callers) × ClosesAs step desk ps m
  closed step desk ps m w = (
    sym (many ps) ∙ w.4,
    (w.0, w.1, All-from_recursion (Fits w.0) ps (fits w.0 ps w.2), All-from_recursion (λ (call : Call E R). call.by < desk.callers) w.0 (below desk.callers w.0 w.3)),
  )

  numbers : (ps : List (PassFacts S E R)) → length (map (λ (p : PassFacts S E R). p.number) ps) ≡ length ps
  numbers [] = refl
  numbers (p ∷ ps) = ap suc (numbers ps)

  lacking : (k : ℕ) (ps : List (PassFacts S E R)) → Lacks k (map (λ (p : PassFacts S E R). p.number) ps) → AllByRecursion (λ (p : PassFacts S E R). p.number ≢ k) ps
  lacking k [] h = tt
  lacking k (p ∷ ps) h = (h.0, lacking k ps h.1)

  -- too few passes: one is missing
  pub missing : (desk : DeskFacts S) (ps : List (PassFacts S E R)) → length ps < desk.callers → IsMissing desk ps
  missing desk ps few =
      let t = lacks desk.callers (map (λ (p : PassFacts S E R). p.number) ps) (let n = numbers ps in omega arith) in
      (t.0, t.1, All-from_recursion (λ (p : PassFacts S E R). p.number ≢ t.0) ps (lacking t.0 ps t.2))

  no_times : (n : ℕ) (ps : List (PassFacts S E R)) → AllByRecursion (λ (p : PassFacts S E R). p.number ≢ n) ps → times n (map caller_of ps) ≡ 0
  no_times n [] h = refl
  no_times n (p ∷ ps) h = let z : ◌≡◌ {A = ℕ} (cond (eqb n p.number) 1 0) 0 = ap (λ (b : Bool). cond b 1 0) (ne_eqb n p.number (λ e. h.0 (sym e))) in let t = no_times n ps h.1 in omega arith

  -- the passes of a desk that closed: none is missing
  pub not_missing : (step : S → E → R → S → Type 0) (desk : DeskFacts S) (ps : List (PassFacts S E R)) (m : S) → Whole step desk.opening desk.callers (map caller_of ps) m → IsMissing desk ps → ⊥
  not_missing step desk ps m w t =
      let none = no_times t.0 ps (recursion_from_All (λ (p : PassFacts S E R). p.number ≢ t.0) ps t.2) in
      let once : times t.0 (map caller_of ps) ≡ 1 = w.5 t.0 ∙ ap (λ (b : Bool). cond b 1 0) (lt-ltb t.0 desk.callers t.1) in
      absurd (omega arith)
