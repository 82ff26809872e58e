-- Sums: one more, and one element raised.
use Rattle.std.proofs.Common.{◌≡◌, ℕ, zero, suc, ◌<◌, ℤ, pos, ◌+ℤ◌, List, [], ◌∷◌, length, get_or, set, fold, arith}
use Rattle.std.proofs.lemmas.Int.{ints}
use Rattle.alloc_share.specs.Shares.{total}

pub total_from : (a : ℤ) (xs : List ℤ) → fold ◌+ℤ◌ a xs ≡ a +ℤ total xs
total_from a [] = omega (arith, ints)
total_from a (x ∷ xs) =
    let first : fold ◌+ℤ◌ (a +ℤ x) xs ≡ a +ℤ x +ℤ total xs = total_from (a +ℤ x) xs in
    let second : fold ◌+ℤ◌ (pos 0 +ℤ x) xs ≡ pos 0 +ℤ x +ℤ total xs = total_from (pos 0 +ℤ x) xs in
    omega (arith, ints, first, second)

pub total-cons : (x : ℤ) (xs : List ℤ) → total (x ∷ xs) ≡ x +ℤ total xs
total-cons x xs =
    let h : fold ◌+ℤ◌ (pos 0 +ℤ x) xs ≡ pos 0 +ℤ x +ℤ total xs = total_from (pos 0 +ℤ x) xs in
    omega (arith, ints, h)

pub total-raised : (xs : List ℤ) (k : ℕ) (more : ℤ) → k < length xs → total (set xs k (get_or xs k (pos 0) +ℤ more)) ≡ total xs +ℤ more
total-raised [] k more h = absurd (omega arith)
total-raised (x ∷ xs) zero more h = omega (arith, ints, total-cons (x +ℤ more) xs, total-cons x xs)
total-raised (x ∷ xs) (suc k) more h =
    omega (arith, ints, total-raised xs k more (omega arith), total-cons x (set xs k (get_or xs k (pos 0) +ℤ more)), total-cons x xs)
