-- Worked cases, each worked out by hand: the texts of cells, what is a text or a name, arithmetic and comparison.
use Rattle.std.proofs.Common.{◌≡◌, ◌++◌, [], ◌∷◌, length, replicate, refl, ap, arith, true, false, pos, negsuc, Ok, Err}
use Rattle.std.specs.Prelude.{codes}
use Rattle.std.specs.Fmt.{decimal}
use Rattle.std.proofs.lemmas.Fmt.{decimal-digits_value}
use Rattle.aw_cell.specs.declared.cell.Cell.TheVariants.{Na, Num, Int, Text, Bool}
use Rattle.aw_cell.specs.declared.comparison.Order.TheVariants.{Eq, Lt}
use Rattle.aw_cell.specs.declared.number.Arith.TheVariants.{Overflow, DivideByZero}
use Rattle.aw_cell.specs.CellArithmetic.{cell_sum, cell_product, cell_quotient}
use Rattle.aw_cell.specs.CellText.{cell_text, four_digits}
use Rattle.aw_cell.specs.Comparison.{compared}
use Rattle.aw_cell.specs.Names.{is_name, reserved_words}
use Rattle.aw_cell.specs.Rounding.{rounded}
use Rattle.aw_cell.specs.Text.{is_text}
use Rattle.aw_cell.proofs.Numerals.{digits_model}

pub na : cell_text Na ≡ codes "NA"
na = refl

pub yes : cell_text (Bool true) ≡ codes "YES"
yes = refl

pub no : cell_text (Bool false) ≡ codes "NO"
no = refl

pub a_text : cell_text (Text (codes "Q1.b")) ≡ codes "Q1.b"
a_text = refl

no_digits : decimal 0 ≡ 48 ∷ []
no_digits = decimal-digits_value digits_model (48 ∷ []) refl (omega arith) (λ front. refl) (omega arith)

twelve : decimal 12 ≡ 49 ∷ 50 ∷ []
twelve = decimal-digits_value digits_model (49 ∷ 50 ∷ []) refl (omega arith) (λ front. cc) (omega arith)

seven : decimal 7 ≡ 55 ∷ []
seven = decimal-digits_value digits_model (55 ∷ []) refl (omega arith) (λ front. cc) (omega arith)

pub zero_number : cell_text (Num (pos 0)) ≡ codes "0.0000"
zero_number = ap (λ whole. whole ++ 46 ∷ four_digits 0) no_digits

pub least_below_zero : cell_text (Num (negsuc 0)) ≡ codes "-0.0001"
least_below_zero = ap (λ whole. 45 ∷ (whole ++ 46 ∷ four_digits 1)) no_digits

pub twelve_and_a_half : cell_text (Num (pos 125000)) ≡ codes "12.5000"
twelve_and_a_half = ap (λ whole. whole ++ 46 ∷ four_digits 125000) twelve

pub an_integer : cell_text (Int (pos 12)) ≡ codes "12"
an_integer = twelve

pub an_integer_below_zero : cell_text (Int (negsuc 6)) ≡ codes "-7"
an_integer_below_zero = ap (λ digits. 45 ∷ digits) seven

-- ---- texts and names

pub blank_and_tilde : is_text (32 ∷ 126 ∷ []) ≡ true
blank_and_tilde = refl

pub below_the_blank : is_text (31 ∷ []) ≡ false
below_the_blank = refl

pub past_the_tilde : is_text (127 ∷ []) ≡ false
past_the_tilde = refl

pub longest_text : is_text (replicate 64 97) ≡ true
longest_text = refl

pub too_long_a_text : is_text (replicate 65 97) ≡ false
too_long_a_text = refl

pub reserved_words_are_counted : length reserved_words ≡ 100
reserved_words_are_counted = refl

pub a_name : is_name (codes "a.b_1") ≡ true
a_name = refl

pub a_digit_in_front : is_name (codes "1a") ≡ false
a_digit_in_front = refl

pub a_reserved_word : is_name (codes "sHow") ≡ false
a_reserved_word = refl

pub a_letter_more : is_name (codes "SHOWS") ≡ true
a_letter_more = refl

-- ---- arithmetic and comparison

-- 0.0001 * 0.5, and below zero
pub half_up : cell_product (Num (pos 1)) (Num (pos 5000)) ≡ Ok (Num (pos 1))
unfolding rounded
half_up = refl

pub half_down : cell_product (Num (negsuc 0)) (Num (pos 5000)) ≡ Ok (Num (negsuc 0))
unfolding rounded
half_down = refl

-- 2 / 3
pub two_thirds : cell_quotient (Int (pos 2)) (Int (pos 3)) ≡ Ok (Num (pos 6667))
unfolding rounded
two_thirds = refl

pub by_zero : cell_quotient (Int (pos 2)) (Int (pos 0)) ≡ Err DivideByZero
by_zero = refl

pub past_the_greatest : cell_sum (Int (pos 2147483647)) (Int (pos 1)) ≡ Err Overflow
past_the_greatest = refl

pub past_the_least : cell_sum (Int (negsuc 2147483646)) (Int (negsuc 0)) ≡ Err Overflow
past_the_least = refl

-- 1 and 1.0000
pub kinds_are_equal : compared Eq (Int (pos 1)) (Num (pos 10000)) ≡ Bool true
kinds_are_equal = refl

pub capitals_come_first : compared Lt (Text (codes "Z")) (Text (codes "a")) ≡ Bool true
capitals_come_first = refl
