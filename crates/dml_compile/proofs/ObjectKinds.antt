-- The kinds of the objects are gathered one by one.
use Rattle.std.proofs.Common.{◌≡◌, ◌∙◌, ℕ, zero, suc, ◌+◌, List, [], ◌∷◌, ◌++◌, map, drop, Some, sym, ap, arith, append_assoc}
use Rattle.std.specs.Prelude.{slice_get}

from_here : {X : Type 0} (xs : List X) (at : ℕ) (x : X) → slice_get xs at ≡ Some x → drop at xs ≡ x ∷ drop (suc at) xs
from_here [] at x is = absurd (cc)
from_here {X} (y ∷ xs) zero x is = let same : y ≡ x = cc in ap (λ (z : X). z ∷ xs) same
from_here (y ∷ xs) (suc at) x is = from_here xs at x is

pub one_more : {X Y : Type 0} (f : X → Y) (xs : List X) (at : ℕ) (x : X) (was now whole : List Y) → slice_get xs at ≡ Some x → was ++ map f (drop at xs) ≡ whole → now ≡ was ++ f x ∷ [] → now ++ map f (drop (at + 1) xs) ≡ whole
one_more {X} {Y} f xs at x was now whole is before more =
    let next : at + 1 ≡ suc at = omega arith in
    ap (λ (ys : List Y). ys ++ map f (drop (at + 1) xs)) more
    ∙ append_assoc was (f x ∷ []) (map f (drop (at + 1) xs))
    ∙ ap (λ (n : ℕ). was ++ f x ∷ map f (drop n xs)) next
    ∙ ap (λ (ys : List X). was ++ map f ys) (sym (from_here xs at x is))
    ∙ before
