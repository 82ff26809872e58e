use Rattle.std.proofs.Common.{◌≡◌, ◌+◌, length, cond, is_some}
use Rattle.std.specs.Option.{option_map}
use Rattle.std.specs.Map.Iter.{deref_pair}
use Rattle.aw_var.specs.inside.Walks.{numbers_left}
use Rattle.aw_var.proofs.going.take_cell.Given as goal

abbrev pub invariant-sheets : goal.invariant-sheets
invariant-sheets l = numbers_left (option_map deref_pair l.fn.sheet) l.fn.passed l.fn.rest ≡ numbers_left (option_map deref_pair l.sheet) l.passed l.rest

abbrev pub decreases-sheets : goal.decreases-sheets
decreases-sheets l = cond (is_some l.sheet) 1 0 + length l.rest
