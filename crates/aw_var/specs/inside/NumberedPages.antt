-- The 64 cells of a page by their packed numbers.
use Rattle.std.specs.Prelude.{ℕ, ◌≡◌, ◌+◌, ◌*◌, ◌<◌, List, length, slice_get, Some, ⊤}
use Rattle.aw_cell.specs.declared.cell.Kind.{Kind}
use Rattle.aw_cell.specs.declared.cell.Kind.TheVariants.{Text as TextKind}
use Rattle.aw_cell.specs.declared.cell.Cell.{Cell}
use Rattle.aw_cell.specs.declared.cell.Cell.TheVariants.{Na}
use Rattle.aw_var.specs.inside.NumberedMap.{cell_of}

-- the cells are TEXT, or every cell of a page is NA
abbrev pub HasNoSheet : Kind → List (ℕ × Cell) → ℕ → Type 0
HasNoSheet TextKind cells page = ⊤
HasNoSheet _ cells page = (place : ℕ) → place < 64 → cell_of cells (64 * page + place) ≡ Na

-- these are the 64 cells of a page
pub record AreCellsOn (cells : List (ℕ × Cell)) (page : ℕ) (list : List Cell) : Type 0 where
  pub size : length list ≡ 64
  pub places : (place : ℕ) → place < 64 → slice_get list place ≡ Some (cell_of cells (64 * page + place))
