-- How a page keeps its TEXT cells.
use Rattle.std.specs.Prelude.{List, ℕ, Option, Some, None}
use Rattle.aw_cell.specs.declared.cell.Cell.{Cell}
use Rattle.aw_cell.specs.declared.cell.Cell.TheVariants.{Na, Text}

-- a TEXT, or NA where there is none
abbrev pub text_cell : Option (List ℕ) → Cell
text_cell None = Na
text_cell (Some text) = Text text
