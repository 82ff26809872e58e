-- The laws on numbers and their texts.
use Rattle.std.proofs.Common.{◌≡◌, ◌≤◌, ◌<◌, ◌*◌, ◌+◌, ◌/◌, ◌%◌, ℕ, suc, ◌∙◌, refl, ap, sym, subst, arith, true, false, Bool, ◌&&◌, ℤ, pos, negsuc, neg_ℤ, ◌+ℤ◌, ◌*ℤ◌, Ok, Err, if◌then◌else◌}
use Rattle.std.specs.Bool.{beq}
use Rattle.std.specs.Int.{is_negative}
use Rattle.std.specs.Char.{is_ascii_digit, digit_value}
use Rattle.std.specs.Fmt.{decimal}
use Rattle.std.specs.Str.Parse.{digits_value}
use Rattle.std.proofs.lemmas.Bool.Decides.{nat_tests}
use Rattle.std.proofs.lemmas.Fmt.{decimal_nonempty, digits_decimal, digits_value-decimal}
use Rattle.std.proofs.lemmas.Int.{ints}
use Rattle.aw_cell.specs.declared.number.Arith.TheVariants.{Overflow}
use Rattle.aw_cell.specs.Number.{IsInRange}
use Rattle.aw_cell.specs.Arithmetic.{is_in_range, fitted}
use Rattle.aw_cell.specs.CellText.{four_digits, size_text, number_text}
use Rattle.aw_cell.specs.Numeral.{are_digits, SpellsSize, Spells}
use Rattle.aw_cell.specs.Rounding.{nearest, rounded}
use Rattle.aw_cell.specs.Laws.{TextsAreNumerals, TextsTellApart, SumsCommute, SumsAssociate, OneIsNeutral}
use Rattle.aw_cell.proofs.Numerals.{digits_model, spells_once}
use Rattle.aw_cell.proofs.Rounding.{rounded_alike, rounded_unlike, not_negative}

-- ---- texts

digit : (d : ℕ) → d < 10 → is_ascii_digit (48 + d) ≡ true
digit d h = grind (arith, nat_tests)

digit_is : (d : ℕ) → d < 10 → digit_value (48 + d) ≡ d
digit_is d h = grind (arith, nat_tests)

all_four : (a b c d : Bool) → a ≡ true → b ≡ true → c ≡ true → d ≡ true → (a && (b && (c && (d && true)))) ≡ true
all_four a b c d h i j k = rw (h, i, j, k) refl

four_are_digits : (n : ℕ) → are_digits (four_digits n) ≡ true
four_are_digits n = all_four _ _ _ _ (digit (n / 1000 % 10) (omega arith)) (digit (n / 100 % 10) (omega arith)) (digit (n / 10 % 10) (omega arith)) (digit (n % 10) (omega arith))

four_value : (n : ℕ) → digits_value 10 (four_digits n) ≡ n % 10000
four_value n =
    let a = digit_is (n / 1000 % 10) (omega arith) in
    let b = digit_is (n / 100 % 10) (omega arith) in
    let c = digit_is (n / 10 % 10) (omega arith) in
    let d = digit_is (n % 10) (omega arith) in
    rw (a, b, c, d) (omega arith)

size_is_spelled : (n : ℕ) → n ≤ 999999999999999999 → SpellsSize (size_text n) n
size_is_spelled n h =
    let whole : digits_value 10 (decimal (n / 10000)) ≡ n / 10000 = digits_value-decimal digits_model (n / 10000) (omega arith) in
    let fraction : digits_value 10 (four_digits n) ≡ n % 10000 = four_value n in
    record {
      whole = decimal (n / 10000);
      decimals = four_digits n;
      form = refl;
      parts = record {
        some = decimal_nonempty (n / 10000) (omega arith);
        whole_digits = digits_decimal digits_model (n / 10000) (omega arith);
        few = omega arith;
        decimal_digits = four_are_digits n;
        value = rw (whole, fraction) (omega arith);
      };
    }

pub texts_are_numerals : TextsAreNumerals
texts_are_numerals (pos n) h =
    record { negative = false; unsigned = size_text n; count = n; form = refl; size = size_is_spelled n (omega (arith, ints)); value = refl }
texts_are_numerals (negsuc n) h =
    record { negative = true; unsigned = size_text (suc n); count = suc n; form = refl; size = size_is_spelled (suc n) (omega (arith, ints)); value = refl }

pub texts_tell_apart : TextsTellApart
texts_tell_apart x y h i same =
    spells_once (number_text x) x y (texts_are_numerals x h) (subst (λ text. Spells text y) (sym same) (texts_are_numerals y i))

-- ---- sums

pub sums_commute : SumsCommute
sums_commute x y = let same : x +ℤ y ≡ y +ℤ x = omega (arith, ints) in ap fitted same

chosen : (b : Bool) (z s : ℤ) → (if b then Ok z else Err Overflow) ≡ Ok s → z ≡ s
chosen true z s e = cc
chosen false z s e = cc

pub sums_associate : SumsAssociate
sums_associate x y z s t e f =
    let left : x +ℤ y ≡ s = chosen (is_in_range (x +ℤ y)) (x +ℤ y) s e in
    let right : y +ℤ z ≡ t = chosen (is_in_range (y +ℤ z)) (y +ℤ z) t f in
    let same : s +ℤ z ≡ x +ℤ t = omega (arith, ints) in
    ap fitted same

-- ---- one

in_range : (x : ℤ) → IsInRange x → is_in_range x ≡ true
in_range x h = grind (arith, ints, nat_tests)

fits : (x : ℤ) → IsInRange x → fitted x ≡ Ok x
fits x h = let e = in_range x h in rw e refl

exact : (n : ℕ) → n ≡ nearest (n * 10000) 10000
exact n = omega arith

rounded_exactly : (x : ℤ) → rounded (x *ℤ pos 10000) (pos 10000) ≡ x
rounded_exactly (pos n) =
    let same : beq (is_negative (pos (n * 10000))) (is_negative (pos 10000)) ≡ true = rw (not_negative (n * 10000)) refl in
    sym (rounded_alike (pos (n * 10000)) (pos 10000) n same (exact n))
rounded_exactly (negsuc n) =
    let more : suc n * 10000 ≡ suc (n * 10000 + 9999) = omega arith in
    let size : suc n ≡ nearest (suc (n * 10000 + 9999)) 10000 = exact (suc n) ∙ ap (λ p. nearest p 10000) more in
    ap (λ p. rounded (neg_ℤ (pos p)) (pos 10000)) more
    ∙ sym (rounded_unlike (negsuc (n * 10000 + 9999)) (pos 10000) (suc n) refl size)

ten_thousand_times : (x : ℤ) → pos 10000 *ℤ x ≡ x *ℤ pos 10000
ten_thousand_times x = omega (arith, ints)

rounded_scaled : (x : ℤ) → rounded (pos 10000 *ℤ x) (pos 10000) ≡ x
rounded_scaled x = ap (λ p. rounded p (pos 10000)) (ten_thousand_times x) ∙ rounded_exactly x

pub one_is_neutral : OneIsNeutral
one_is_neutral = record {
  times_one = λ x h. ap fitted (rounded_exactly x) ∙ fits x h;
  one_times = λ x h. ap fitted (rounded_scaled x) ∙ fits x h;
  by_one = λ x h. ap fitted (rounded_scaled x) ∙ fits x h;
}
