-- How two maps differ, sheet by sheet.
use Rattle.std.specs.Prelude.{ℕ, ◌≡◌, ◌<◌, ◌^◌, ◌*◌, min, ◌+◌, zero, suc, cond, List, [], ◌∷◌, slice_index_or, Option, Some, None}
use Rattle.aw_cell.specs.declared.cell.Cell.{Cell}
use Rattle.aw_cell.specs.declared.cell.Cell.TheVariants.{Na}
use Rattle.aw_cell.specs.Cell.{same_cell}
use Rattle.aw_var.specs.inside.Sheets.{SheetCells}

-- the cell on a sheet, NA where there is none
abbrev pub cell_on : Option SheetCells → ℕ → Cell
cell_on None place = Na
cell_on (Some sheet) place = slice_index_or sheet.1 place Na

-- the cells of one page that differ from a place on, for so many places
unfoldable pub changes_on : Option SheetCells → Option SheetCells → ℕ → ℕ → ℕ → List (ℕ × Cell)
changes_on before now from place zero = []
changes_on before now from place (suc left) =
    cond (same_cell (cell_on before place) (cell_on now place)) (changes_on before now from (place + 1) left) ((from + place, cell_on now place) ∷ changes_on before now from (place + 1) left)

-- what differs has numbers of keys with so many slots
abbrev pub ChangesFit : ℕ → ℕ → Option SheetCells → Option SheetCells → Type 0
ChangesFit slots page before now = (place : ℕ) → place < 64 → (cell_on before place ≡ cell_on now place → ⊥) → 64 * page + place < 65536 ^ slots

-- the lesser of two numbers, or the one that there is
abbrev pub lesser_of : Option ℕ → Option ℕ → Option ℕ
lesser_of (Some one) (Some other) = Some (min one other)
lesser_of (Some one) None = Some one
lesser_of None other = other
