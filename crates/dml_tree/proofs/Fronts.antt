-- The elements at the front of a list that pass a test.
use Rattle.std.proofs.Common.{◌≡◌, ◌≤◌, ◌+◌, ℕ, zero, suc, refl, ap, sym, arith, true, false, Bool, cond, List, [], ◌∷◌, ◌++◌, length, take, zero-add}
use Rattle.std.specs.List.{list_all, prefix_len}
use Rattle.std.proofs.lemmas.Bool.{and_parts}

module _ {X : Type 0} (p : X → Bool) where
  -- where the first ones all pass, the front is no shorter
  pub prefix_len-covers : (xs : List X) (m : ℕ) → m ≤ length xs → list_all p (take m xs) ≡ true → m ≤ prefix_len p xs
  prefix_len-covers xs zero within each = omega arith
  prefix_len-covers [] (suc m) within each = absurd (omega arith)
  prefix_len-covers (x ∷ xs) (suc m) within each =
      let parts = and_parts (p x) (list_all p (take m xs)) each in
      let rest : m ≤ prefix_len p xs = prefix_len-covers xs m (omega arith) parts.1 in
      rw parts.0 (omega arith)

  -- the first ones, as many as the front has or fewer, all pass
  pub prefix_len-part : (xs : List X) (m : ℕ) → m ≤ prefix_len p xs → list_all p (take m xs) ≡ true
  prefix_len-part xs zero within = refl
  prefix_len-part [] (suc m) within = absurd (omega arith)
  prefix_len-part (x ∷ xs) (suc m) within = by (p x) refl (prefix_len-part xs m) within
    where
      by : (b : Bool) → p x ≡ b → (m ≤ prefix_len p xs → list_all p (take m xs) ≡ true) → suc m ≤ cond b (1 + prefix_len p xs) 0 → list_all p (x ∷ take m xs) ≡ true
      by true e rest within = rw e (rest (omega arith))
      by false e rest within = absurd (omega arith)

  pub prefix_len-behind : (xs ys : List X) → list_all p xs ≡ true → prefix_len p (xs ++ ys) ≡ length xs + prefix_len p ys
  prefix_len-behind [] ys each = sym (zero-add (prefix_len p ys))
  prefix_len-behind (x ∷ xs) ys each =
      let parts = and_parts (p x) (list_all p xs) each in
      let rest = prefix_len-behind xs ys parts.1 in
      rw (parts.0, rest) (omega arith)

pub take-take : {X : Type 0} (xs : List X) (m n : ℕ) → m ≤ n → take m (take n xs) ≡ take m xs
take-take [] m n le = ap (take m) (take-nothing n)
  where
    take-nothing : {Y : Type 0} (k : ℕ) → ◌≡◌ {A = List Y} (take k []) []
    take-nothing zero = refl
    take-nothing (suc k) = refl
take-take (x ∷ xs) zero n le = refl
take-take (x ∷ xs) (suc m) zero le = absurd (omega arith)
take-take (x ∷ xs) (suc m) (suc n) le = ap (λ l. x ∷ l) (take-take xs m n (omega arith))
