-- The numbers that stand for coordinates: a slot more, and their bounds.
use Rattle.std.proofs.Common.{ℕ, ◌≡◌, ◌+◌, ◌*◌, ◌^◌, ◌<◌, ◌≤◌, List, [], ◌∷◌, ◌++◌, suc, length, arith, ap, ◌∙◌, length-append}
use Rattle.std.proofs.Math.Nat.{pow-suc, pow-le-pow_right}
use Rattle.std.proofs.lemmas.Nat.{mul-add-lt}
use Rattle.std.proofs.lemmas.Grind.{pow_more}
use Rattle.aw_lists.specs.Coord.{packed, AreSlots}

regroup : (first power low slot higher lower : ℕ) → higher ≡ power * 65536 → lower ≡ low * 65536 + slot → first * higher + lower ≡ (first * power + low) * 65536 + slot
regroup first power low slot higher lower e g = rw (e, g) (omega arith)

-- a slot behind the others is the lowest digit
pub packed-push : (slots : List ℕ) (slot : ℕ) → packed (slots ++ slot ∷ []) ≡ packed slots * 65536 + slot
packed-push [] slot = omega arith
packed-push (first ∷ slots) slot =
    let count : length (slots ++ slot ∷ []) ≡ length slots + 1 = length-append slots (slot ∷ []) in
    let higher : 65536 ^ length (slots ++ slot ∷ []) ≡ 65536 ^ length slots * 65536 = ap (λ n. 65536 ^ n) count ∙ pow_more 65536 (length slots) in
    regroup first (65536 ^ length slots) (packed slots) slot _ _ higher (packed-push slots slot)

-- the slots behind the first are slots
pub AreSlots-rest : (slot : ℕ) (slots : List ℕ) → AreSlots (slot ∷ slots) → AreSlots slots
AreSlots-rest slot slots each = λ k d within. each (suc k) d (omega arith)

-- a coordinate's number has no more digits than the coordinate has slots
pub packed-below : (slots : List ℕ) → AreSlots slots → packed slots < 65536 ^ length slots
packed-below [] each = omega arith
packed-below (first ∷ slots) each =
    let low = packed-below slots (AreSlots-rest first slots each) in
    let is_slot : first < 65536 = each 0 0 (omega arith) in
    rw pow-suc (omega (arith, mul-add-lt first (65536 ^ length slots) (packed slots) 65536 is_slot low))

-- so it is with one slot more
pub below-push : (number slot count : ℕ) → number < 65536 ^ count → slot < 65536 → number * 65536 + slot < 65536 ^ (count + 1)
below-push number slot count below is_slot = rw pow_more (omega (arith, mul-add-lt number 65536 slot (65536 ^ count) below is_slot))

-- the number of at most 5 slots leaves room for one more in 128 bits
pub packed-fits : (number count : ℕ) → number < 65536 ^ count → count ≤ 5 → number * 65536 + 65535 < 2 ^ 128
packed-fits number count below few =
    let most : 65536 ^ count ≤ 65536 ^ 5 = pow-le-pow_right (omega arith) few in
    omega arith
