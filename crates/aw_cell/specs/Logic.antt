-- AND, OR and NOT over YES, NO and NA.
use Rattle.std.specs.Prelude.{Bool as Truth, true, false, not}
use Rattle.aw_cell.specs.declared.cell.Cell.{Cell}
use Rattle.aw_cell.specs.declared.cell.Cell.TheVariants.{Na, Bool}

-- whether a cell is a BOOLEAN or NA
abbrev pub is_truth : Cell → Truth
is_truth Na = true
is_truth (Bool a) = true
is_truth _ = false

-- NO and anything is NO; else NA with anything is NA
abbrev pub both : Cell → Cell → Cell
both (Bool false) _ = Bool false
both _ (Bool false) = Bool false
both (Bool true) (Bool true) = Bool true
both _ _ = Na

-- YES or anything is YES; else NA with anything is NA
abbrev pub either : Cell → Cell → Cell
either (Bool true) _ = Bool true
either _ (Bool true) = Bool true
either (Bool false) (Bool false) = Bool false
either _ _ = Na

abbrev pub negated : Cell → Cell
negated (Bool a) = Bool (not a)
negated _ = Na

-- a cell, or the other where it is NA
abbrev pub filled : Cell → Cell → Cell
filled Na other = other
filled cell _ = cell
