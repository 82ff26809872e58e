-- The digits of a number in base 65,536, written from the last.
use Rattle.std.proofs.Common.{◌≡◌, ℕ, zero, suc, ◌+◌, ◌-◌, ◌*◌, ◌/◌, ◌%◌, ◌^◌, ◌<◌, ◌≤◌, List, [], ◌∷◌, length, length-take-le, take, drop, slice_set, refl, sym, ap, ◌∙◌, arith}
use Rattle.std.proofs.Math.Nat.{pow-suc, pow-le-pow_right}
use Rattle.std.proofs.Math.ListN.{length-set}
use Rattle.aw_lists.specs.Coord.{packed, AreSlots}
use Rattle.aw_lists.proofs.callers.PackingOrder.{packs_in_order}
use Rattle.aw_var.specs.inside.Unpacking.{unpacked}
use Rattle.aw_var.proofs.Unpacking.{AreSlots-unpacked, length-unpacked, packed-unpacked}

-- from a place on the digits are written, and the rest of the number stands for those before
pub record DigitsFrom (slots : List ℕ) (at rest number : ℕ) : Type 0 where
  pub within : at ≤ length slots
  pub total : rest * 65536 ^ (length slots - at) + packed (drop at slots) ≡ number

drop-length : (xs : List ℕ) → drop (length xs) xs ≡ []
drop-length [] = refl
drop-length (x ∷ xs) = drop-length xs

pub digits_begin : (slots : List ℕ) (number : ℕ) → DigitsFrom slots (length slots) number number
digits_begin slots number =
    let none : length slots - length slots ≡ 0 = omega arith in
    record { within = omega arith; total = (λ i. number * 65536 ^ none i + packed (drop-length slots i)) ∙ omega arith }

drop-set : (xs : List ℕ) (at x : ℕ) → at < length xs → drop at (slice_set xs at x) ≡ x ∷ drop (suc at) xs
drop-set [] at x h = absurd (omega arith)
drop-set (y ∷ ys) zero x h = refl
drop-set (y ∷ ys) (suc at) x h = drop-set ys at x (omega arith)

length-drop' : (xs : List ℕ) (at : ℕ) → length (drop at xs) ≡ length xs - at
length-drop' xs zero = omega arith
length-drop' [] (suc at) = omega arith
length-drop' (x ∷ xs) (suc at) = length-drop' xs at ∙ omega arith

regrouped : (rest power low number : ℕ) → rest * power + low ≡ number → rest / 65536 * (power * 65536) + (rest % 65536 * power + low) ≡ number
regrouped rest power low number h =
    let split : rest ≡ 65536 * (rest / 65536) + rest % 65536 = omega arith in
    let grown : rest * power ≡ (65536 * (rest / 65536) + rest % 65536) * power = ap (λ r. r * power) split in
    omega arith

pub digits_more : (slots : List ℕ) (at rest number : ℕ) → at < length slots → DigitsFrom slots (at + 1) rest number → DigitsFrom (slice_set slots at (rest % 65536)) at (rest / 65536) number
digits_more slots at rest number h before =
    let size = length-set slots at (rest % 65536) in
    let more : length slots - at ≡ suc (length slots - (at + 1)) = omega arith in
    let low = length-drop' slots (at + 1) in
    let next : suc at ≡ at + 1 = omega arith in
    record {
      within = omega arith;
      total =
          (λ i. rest / 65536 * 65536 ^ ((ap (λ n. n - at) size ∙ more) i) + packed ((drop-set slots at (rest % 65536) h ∙ ap (λ n. rest % 65536 ∷ drop n slots) next) i))
          ∙ (λ i. rest / 65536 * pow-suc' (length slots - (at + 1)) i + (rest % 65536 * 65536 ^ low i + packed (drop (at + 1) slots)))
          ∙ regrouped rest (65536 ^ (length slots - (at + 1))) (packed (drop (at + 1) slots)) number before.total;
    }
  where
    pow-suc' : (n : ℕ) → 65536 ^ suc n ≡ 65536 ^ n * 65536
    pow-suc' n = rw pow-suc (omega arith)

pub digits_end : (slots : List ℕ) (rest number : ℕ) → number < 65536 ^ length slots → DigitsFrom slots 0 rest number → packed slots ≡ number
digits_end slots zero number h all = let t = all.total in omega (arith, all.total)
digits_end slots (suc rest) number h all =
    let whole : length slots - 0 ≡ length slots = omega arith in
    let t : suc rest * 65536 ^ length slots + packed slots ≡ number = ap (λ n. suc rest * 65536 ^ n + packed slots) (sym whole) ∙ all.total in
    absurd (omega arith)

-- so many slots with a number are its coordinate
pub digits_are : (slots number : ℕ) (digits : List ℕ) → AreSlots digits → length digits ≡ slots → number < 65536 ^ slots → packed digits ≡ number → digits ≡ unpacked slots number
digits_are slots number digits each size under is =
    (packs_in_order digits (unpacked slots number) each (AreSlots-unpacked slots number under) (size ∙ sym (length-unpacked slots number))).distinct (is ∙ sym (packed-unpacked slots number under))

abbrev pub six_zeros : List ℕ
six_zeros = 0 ∷ 0 ∷ 0 ∷ 0 ∷ 0 ∷ 0 ∷ []

length-six : (n : ℕ) → n ≤ 6 → length (take n six_zeros) ≡ n
length-six n h = length-take-le n six_zeros h

pub digits_of : (slots number : ℕ) (coord digits : List ℕ) → slots ≤ 6 → coord ≡ digits → AreSlots digits → length digits ≡ length (take slots six_zeros) → number < 65536 ^ slots → packed digits ≡ number → coord ≡ unpacked slots number
digits_of slots number coord digits few same each size under is = same ∙ digits_are slots number digits each (size ∙ length-six slots few) under is

pub number_fits : (slots n : ℕ) → slots ≤ 6 → n < 65536 ^ slots → n < 2 ^ 128
number_fits slots n few h =
    let most : 65536 ^ slots ≤ 65536 ^ 6 = pow-le-pow_right (omega arith) few in
    omega arith
