-- What the private functions make of the sum of the shares.
use Rattle.std.specs.Prelude.{ℤ, pos, ◌-ℤ◌, cond, List, Option, Some, None}
use Rattle.aw_cell.specs.declared.operator.Spread.{Spread}
use Rattle.alloc_share.specs.Shares.{total, are_within, adds_up}

abbrev pub sum_within : ℤ → List ℤ → Option ℤ
sum_within most shares = cond (are_within most shares) (Some (total shares)) None

abbrev pub remainder_of : Spread → ℤ → ℤ → ℤ
remainder_of how amount sum = cond (adds_up how) (amount -ℤ sum) (pos 0)
