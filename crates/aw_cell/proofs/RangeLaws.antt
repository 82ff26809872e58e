-- What arithmetic gives is in the range of its kind.
use Rattle.std.proofs.Common.{◌≡◌, refl, Bool, true, false, arith, unsigned_abs, ℤ, pos, negsuc, neg_ℤ, ◌+ℤ◌, ◌-ℤ◌, ◌*ℤ◌, Result, Ok, Err, if◌then◌else◌}
use Rattle.std.specs.Prelude.{IfOk}
use Rattle.std.specs.Int.{int_min, int_max}
use Rattle.std.specs.Ordering.{int_eq}
use Rattle.std.proofs.lemmas.Int.{ints, clamps}
use Rattle.std.proofs.lemmas.Bool.Decides.{nat_tests}
use Rattle.aw_cell.specs.declared.cell.Cell.{Cell}
use Rattle.aw_cell.specs.declared.cell.Cell.TheVariants.{Na, Num, Int, Text, Bool as BoolCell, Slot}
use Rattle.aw_cell.specs.declared.cell.Kind.{Kind}
use Rattle.aw_cell.specs.declared.cell.Kind.TheVariants.{Num as NumberKind, Int as IntegerKind}
use Rattle.aw_cell.specs.declared.arithmetic.Operands.{Operands}
use Rattle.aw_cell.specs.declared.arithmetic.Operands.TheVariants.{Na as NoOperands, Integers, Numbers}
use Rattle.aw_cell.specs.declared.number.Arith.{Arith}
use Rattle.aw_cell.specs.declared.number.Arith.TheVariants.{Overflow, DivideByZero}
use Rattle.aw_cell.specs.Number.{IsInRange, in_units}
use Rattle.aw_cell.specs.Rounding.{rounded}
use Rattle.aw_cell.specs.Arithmetic.{is_in_range, fitted, number_sum, number_difference, number_product, number_quotient}
use Rattle.aw_cell.specs.CellArithmetic.{is_integer, integer_cell, number_cell, in_one_kind, on_operands, on_number, converted}
use Rattle.aw_cell.specs.Laws.{IsCellInRange, StaysInRange}

chosen : {A E : Type 0} (P : A → Type 0) (t : Bool) (x : A) (why : E) → (t ≡ true → P x) → IfOk (if t then Ok x else Err why) P
chosen P true x why here = here refl
chosen P false x why here = tt

in_range : (x : ℤ) → is_in_range x ≡ true → IsInRange x
in_range x h = (grind (arith, ints, nat_tests), grind (arith, ints, nat_tests))

integer : (x : ℤ) → is_integer x ≡ true → IsCellInRange (Int x)
integer x h = (grind (arith, ints, nat_tests), grind (arith, ints, nat_tests))

fitted_stays : (x : ℤ) → IfOk (fitted x) IsInRange
fitted_stays x = chosen IsInRange (is_in_range x) x Overflow (in_range x)

integer_stays : (x : ℤ) → IfOk (integer_cell x) IsCellInRange
integer_stays x = chosen IsCellInRange (is_integer x) (Int x) Overflow (integer x)

number_stays : (r : Result ℤ Arith) → IfOk r IsInRange → IfOk (number_cell r) IsCellInRange
number_stays (Ok x) h = h
number_stays (Err why) h = tt

not_refused : (t : Bool) (why : Arith) (r : Result ℤ Arith) → IfOk r IsInRange → IfOk (if t then Err why else r) IsInRange
not_refused true why r h = tt
not_refused false why r h = h

quotient_stays : (x y : ℤ) → IfOk (number_quotient x y) IsInRange
quotient_stays x y = not_refused (int_eq y (pos 0)) DivideByZero (fitted (rounded (pos 10000 *ℤ x) y)) (fitted_stays (rounded (pos 10000 *ℤ x) y))

abbrev AreInRange : Operands → Type 0
AreInRange NoOperands = Unit {0}
AreInRange (Integers a b) = Unit {0}
AreInRange (Numbers a b) = IsInRange a × IsInRange b

scaled : (x : ℤ) → IsCellInRange (Int x) → IsInRange (in_units x)
scaled x h = (omega (arith, ints, h), omega (arith, ints, h))

one_kind : (a b : Cell) → IsCellInRange a → IsCellInRange b → AreInRange (in_one_kind a b)
one_kind (Int a) (Int b) h i = tt
one_kind (Int a) (Num b) h i = (scaled a h, i)
one_kind (Num a) (Int b) h i = (h, scaled b i)
one_kind (Num a) (Num b) h i = (h, i)
one_kind _ _ h i = tt

module _ (on_integers : ℤ → ℤ → Result Cell Arith) (op : ℤ → ℤ → Result ℤ Arith) where
  operands_stay : (both : Operands) → AreInRange both → ((x y : ℤ) → IfOk (on_integers x y) IsCellInRange) →
      ((x y : ℤ) → IsInRange x → IsInRange y → IfOk (op x y) IsInRange) → IfOk (on_operands on_integers op both) IsCellInRange
  operands_stay NoOperands h integers numbers = tt
  operands_stay (Integers x y) h integers numbers = integers x y
  operands_stay (Numbers x y) h integers numbers = number_stays (op x y) (numbers x y h.0 h.1)

  any_stay : (both : Operands) → ((x y : ℤ) → IfOk (on_integers x y) IsCellInRange) → ((x y : ℤ) → IfOk (op x y) IsInRange) →
      IfOk (on_operands on_integers op both) IsCellInRange
  any_stay NoOperands integers numbers = tt
  any_stay (Integers x y) integers numbers = integers x y
  any_stay (Numbers x y) integers numbers = number_stays (op x y) (numbers x y)

number_stays_under : (op : ℤ → ℤ) → ((x : ℤ) → IsInRange x → IsInRange (op x)) → (a : Cell) → IsCellInRange a → IfOk (on_number op a) IsCellInRange
number_stays_under op keeps (Int a) h = integer_stays (op a)
number_stays_under op keeps (Num a) h = keeps a h
number_stays_under op keeps _ h = tt

conversion : (kind : Kind) (a : Cell) → IsCellInRange a → IfOk (converted kind a) IsCellInRange
conversion NumberKind (Int a) h = scaled a h
conversion IntegerKind (Num a) h = integer_stays (rounded a (pos 10000))
conversion _ a h = h

pub stays_in_range : StaysInRange
stays_in_range = record {
  sum = λ a b. any_stay (λ x y. integer_cell (x +ℤ y)) number_sum (in_one_kind a b) (λ x y. integer_stays (x +ℤ y)) (λ x y. fitted_stays (x +ℤ y));
  difference = λ a b. any_stay (λ x y. integer_cell (x -ℤ y)) number_difference (in_one_kind a b) (λ x y. integer_stays (x -ℤ y)) (λ x y. fitted_stays (x -ℤ y));
  product = λ a b. any_stay (λ x y. integer_cell (x *ℤ y)) number_product (in_one_kind a b) (λ x y. integer_stays (x *ℤ y)) (λ x y. fitted_stays (rounded (x *ℤ y) (pos 10000)));
  quotient = λ a b. any_stay (λ x y. number_cell (number_quotient (in_units x) (in_units y))) number_quotient (in_one_kind a b)
      (λ x y. number_stays (number_quotient (in_units x) (in_units y)) (quotient_stays (in_units x) (in_units y))) quotient_stays;
  negation = number_stays_under neg_ℤ (λ x h. (omega (arith, ints, h), omega (arith, ints, h)));
  size = number_stays_under (λ x. pos (unsigned_abs x)) (λ x h. (omega (arith, ints, h), omega (arith, ints, h)));
  least = λ a b h i. operands_stay (λ x y. integer_cell (int_min x y)) (λ x y. Ok (int_min x y)) (in_one_kind a b) (one_kind a b h i)
      (λ x y. integer_stays (int_min x y)) (λ x y j k. (omega (arith, ints, clamps, j, k), omega (arith, ints, clamps, j, k)));
  greatest = λ a b h i. operands_stay (λ x y. integer_cell (int_max x y)) (λ x y. Ok (int_max x y)) (in_one_kind a b) (one_kind a b h i)
      (λ x y. integer_stays (int_max x y)) (λ x y j k. (omega (arith, ints, clamps, j, k), omega (arith, ints, clamps, j, k)));
  conversion = conversion;
}
