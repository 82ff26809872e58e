-- How a product is kept within a limit.
use Rattle.std.specs.Prelude.{ℕ, zero, suc, ◌*◌, Option, Some, option_and_then, nat_le}
use Rattle.dml_exec.specs.Operators.{when}

-- a number of combinations, times the length of one list more: 0 where that is 0
abbrev pub times : ℕ → Option ℕ → ℕ → Option ℕ
times zero others limit = Some 0
times (suc count) others limit = option_and_then (λ other. when (nat_le (suc count * other) limit) (suc count * other)) others
