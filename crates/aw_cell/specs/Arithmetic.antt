-- Arithmetic on NUMBERs, counted in ten-thousandths. The range is tested on the result alone, after it is rounded.
use Rattle.std.specs.Prelude.{Bool, ◌&&◌, ℤ, pos, negsuc, ◌+ℤ◌, ◌-ℤ◌, ◌*ℤ◌, int_le, Result, Ok, Err, if◌then◌else◌}
use Rattle.std.specs.Ordering.{int_eq}
use Rattle.aw_cell.specs.declared.number.Arith.{Arith}
use Rattle.aw_cell.specs.declared.number.Arith.TheVariants.{Overflow, DivideByZero}
use Rattle.aw_cell.specs.Rounding.{rounded}

-- whether so many ten-thousandths are a NUMBER
abbrev pub is_in_range : ℤ → Bool
is_in_range units = int_le (negsuc 999999999999999998) units && int_le units (pos 999999999999999999)

-- the number of so many ten-thousandths, where they are in range
abbrev pub fitted : ℤ → Result ℤ Arith
fitted units = (if is_in_range units then Ok units else Err Overflow)

abbrev pub number_sum : ℤ → ℤ → Result ℤ Arith
number_sum x y = fitted (x +ℤ y)

abbrev pub number_difference : ℤ → ℤ → Result ℤ Arith
number_difference x y = fitted (x -ℤ y)

abbrev pub number_product : ℤ → ℤ → Result ℤ Arith
number_product x y = fitted (rounded (x *ℤ y) (pos 10000))

abbrev pub number_quotient : ℤ → ℤ → Result ℤ Arith
number_quotient x y = (if int_eq y (pos 0) then Err DivideByZero else fitted (rounded (pos 10000 *ℤ x) y))
