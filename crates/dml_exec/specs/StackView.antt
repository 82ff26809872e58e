-- What contracts see of the machine's stack.
use Rattle.std.specs.Prelude.{ℕ, List}
use Rattle.aw_cell.specs.declared.cell.Cell.{Cell}

-- its cells, the last one first, and how many it has room for
pub record StackView : Type 0 where
  pub cells : List Cell
  pub room : ℕ
