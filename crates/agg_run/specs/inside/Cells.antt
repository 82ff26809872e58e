-- The cells that come of an aggregation's numbers.
use Rattle.std.specs.Prelude.{ℕ, ◌≡◌, ℤ, Bool, ◌&&◌, not, cond, is_some, List, Option, Some, None, IfSome, ◌≤◌, ◌^◌, unsigned_abs}
use Rattle.aw_cell.specs.declared.cell.Cell.{Cell}
use Rattle.aw_cell.specs.declared.cell.Cell.TheVariants.{Na}
use Rattle.aw_cell.specs.declared.cell.Kind.{Kind}
use Rattle.std.specs.List.{list_any}
use Rattle.std.specs.BTreeMap.{is_at}
use Rattle.aw_var.specs.CellMap.{Cells, cell_at, by_slots}
use Rattle.agg_run.specs.Numbers.{cell_of, is_in_range}
use Rattle.agg_run.specs.Aggregates.{Numbers, is_combination}
use Rattle.agg_run.specs.inside.Levels.{Held, held_at}

-- the cell with a number, where that is in range
abbrev pub fitting_cell : Kind → ℤ → Option Cell
fitting_cell kind number = cond (is_in_range kind number) (Some (cell_of kind (Some number))) None

-- a cell in place of another, where there is one
abbrev pub written : Option Cell → Cell → Cell
written None cell = cell
written (Some new) cell = new

-- what a combination's cell becomes: NA where there is no number
abbrev pub settled : Kind → Option ℤ → Cell → Cell
settled kind None cell = Na
settled kind (Some number) cell = written (fitting_cell kind number) cell

-- the cells at the combinations are settled by numbers, and the others as they were
abbrev pub AreSettled : Kind → List (List ℕ) → Cells → Held → Cells → Type 0
AreSettled kind dimensions cells numbers after =
    (key : List ℕ) → cell_at after key ≡ cond (is_combination dimensions key) (settled kind (held_at numbers key) (cell_at cells key)) (cell_at cells key)

-- a combination's number is out of range
abbrev pub is_refused : Kind → List (List ℕ) → List ℕ × ℤ → Bool
is_refused kind dimensions entry = is_combination dimensions entry.0 && not (is_in_range kind entry.1)

-- no number is greater than those of a cell
abbrev pub AreOfCells : Numbers → Type 0
AreOfCells numbers = (key : List ℕ) → IfSome (numbers key) (λ number. unsigned_abs number ≤ 10 ^ 18)

-- a combination without a number, whose cell is taken away
abbrev pub is_cleared : List (List ℕ) → Held → List ℕ → Bool
is_cleared dimensions numbers key = is_combination dimensions key && not (is_some (held_at numbers key))

-- the cell that a combination gets
abbrev pub combined_cell : Kind → List (List ℕ) → List ℕ × ℤ → Option Cell
combined_cell kind dimensions entry = cond (is_combination dimensions entry.0) (fitting_cell kind entry.1) None

-- whether a key stands among cells
abbrev pub is_in : Cells → List ℕ → Bool
is_in cells key = list_any (λ cell. is_at (by_slots key) cell.0) cells

-- the cell that is still to be written at a key
abbrev pub pending : Kind → List (List ℕ) → List ℕ → Option ℤ → Option Cell
pending kind dimensions key None = None
pending kind dimensions key (Some number) = combined_cell kind dimensions (key, number)
