-- Finite maps from packed keys to cells.
use Rattle.std.specs.Prelude.{ℕ, List, IsTrue}
use Rattle.std.specs.List.{list_all}
use Rattle.std.specs.Ordering.{nat_cmp}
use Rattle.aw_cell.specs.declared.cell.Cell.{Cell}
use Rattle.aw_cell.specs.declared.cell.Kind.{Kind}
use Rattle.aw_page.specs.Fitting.{is_of_kind}
use Rattle.aw_var.specs.CellMap.{IsMapBy, cell_by, set_by}
use Rattle.aw_var.specs.CellPatch.{difference_by}

pub record NumberedMap : Type 0 where
  pub kind : Kind
  pub cells : List (ℕ × Cell)

abbrev pub cell_of : List (ℕ × Cell) → ℕ → Cell
cell_of cells number = cell_by nat_cmp cells number

abbrev pub set_of : List (ℕ × Cell) → ℕ → Cell → List (ℕ × Cell)
set_of cells number cell = set_by nat_cmp cells number cell

abbrev pub difference_of : List (ℕ × Cell) → List (ℕ × Cell) → List (ℕ × Cell)
difference_of older newer = difference_by nat_cmp older newer

-- a map of one kind
pub record IsNumberedMap (map : NumberedMap) : Type 0 where
  pub cells : IsMapBy nat_cmp map.cells
  pub fitting : IsTrue (list_all (λ pair. is_of_kind map.kind pair.1) map.cells)
