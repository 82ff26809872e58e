-- What a shared page shows.
use Rattle.std.specs.Prelude.{true, false}
use Rattle.std.specs.Bool.{MatchBool}
use Rattle.aw_cell.specs.declared.cell.Cell.{Cell}
use Rattle.aw_page.specs.Fitting.{IsPlain, IsTextOrNa}
use Rattle.aw_var.specs.declared.sheet.Shared.{Shared}
use Rattle.aw_var.specs.declared.sheet.Shared.TheVariants.{Plain, Text}
use Rattle.aw_var.specs.inside.Sheets.{SheetCells}

abbrev pub shared_cells : Shared → SheetCells
shared_cells (Plain page) = (false, page.value)
shared_cells (Text page) = (true, page.value)

-- a cell fits a sheet
abbrev pub IsHeldBy : SheetCells → Cell → Type 0
IsHeldBy sheet cell = MatchBool sheet.0 (IsTextOrNa cell) (IsPlain cell)
