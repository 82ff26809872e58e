-- A product within a limit, and how many places there are.
use Rattle.std.proofs.Common.{◌≡◌, ◌∙◌, ℕ, zero, suc, ◌+◌, ◌*◌, ◌<◌, Bool as Truth, true, false, leb, List, [], ◌∷◌, length, map, refl, sym, ap, arith}
use Rattle.std.specs.Prelude.{flat_map}
use Rattle.std.proofs.lemmas.Bool.{leb-false, lt-leb}
use Rattle.std.proofs.lemmas.List.{length-append, length-map}
use Rattle.std.proofs.Math.Dec.{leb-zero}
use Rattle.std.proofs.Math.Nat.{suc-mul, zero-mul}
use Rattle.dml_exec.specs.Operators.{when}
use Rattle.dml_loop.specs.Loops.{Place, places, combinations}
use Rattle.dml_loop.specs.inside.Counting.{times}

too-many : (count others limit : ℕ) → limit < others → limit < suc count * others
too-many count others limit less = omega (arith, less)

times-of : (count others limit : ℕ) (t : Truth) → leb others limit ≡ t → times (suc count) (when t others) limit ≡ when (leb (suc count * others) limit) (suc count * others)
times-of count others limit true e = refl
times-of count others limit false e = ap (λ (t : Truth). when t (suc count * others)) (sym (lt-leb (suc count * others) limit (too-many count others limit (leb-false others limit e))))

-- the product with one length more
pub times-product : (count others limit : ℕ) → times count (when (leb others limit) others) limit ≡ when (leb (count * others) limit) (count * others)
times-product zero others limit =
    sym (ap (λ (t : Truth). when t 0) (leb-zero limit)) ∙ ap (λ (n : ℕ). when (leb n limit) n) (sym (zero-mul others))
times-product (suc count) others limit = times-of count others limit (leb others limit) refl

length-later : (dimension : ℕ) (rest : List Place) (slots : List ℕ) → length (flat_map (λ slot. map (λ (place : Place). (dimension, slot) ∷ place) rest) slots) ≡ length slots * length rest
length-later dimension rest [] = sym (zero-mul (length rest))
length-later dimension rest (slot ∷ slots) =
    let here : List Place = map (λ (place : Place). (dimension, slot) ∷ place) rest in
    let others : List Place = flat_map (λ slot. map (λ (place : Place). (dimension, slot) ∷ place) rest) slots in
    length-append here others ∙ ap (λ (n : ℕ). n + length others) (length-map rest (λ (place : Place). (dimension, slot) ∷ place)) ∙ ap (λ (n : ℕ). length rest + n) (length-later dimension rest slots)
    ∙ one-more (length slots) (length rest)
  where
    one-more : (n m : ℕ) → m + n * m ≡ suc n * m
    one-more n m = omega (arith, suc-mul n m)

-- there are as many places as the product of the lengths
pub places-product : (lists : List (ℕ × List ℕ)) → length (places lists) ≡ combinations lists
places-product [] = refl
places-product (list ∷ lists) = length-later list.0 (places lists) list.1 ∙ ap (λ (n : ℕ). length list.1 * n) (places-product lists)
