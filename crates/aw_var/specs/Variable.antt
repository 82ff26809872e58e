-- Variables.
use Rattle.std.specs.Prelude.{ℕ, ◌≤◌, Bool as Truth, ◌&&◌, ◌==◌, nat_lt, IsTrue, List, length}
use Rattle.std.specs.List.{list_all}
use Rattle.aw_cell.specs.declared.cell.Kind.{Kind}
use Rattle.aw_cell.specs.declared.cell.Cell.{Cell}
use Rattle.aw_page.specs.Fitting.{is_of_kind}
use Rattle.aw_var.specs.CellMap.{Cells, IsCellMap}

-- how many slots its keys have, of which kind its cells are, and the finite map from keys to cells
pub record Contents : Type 0 where
  pub slots : ℕ
  pub kind : Kind
  pub cells : Cells

-- whether a pair has a key of so many slots, and a cell of that kind
abbrev pub is_pair_of : ℕ → Kind → List ℕ × Cell → Truth
is_pair_of slots kind pair = (length pair.0 == slots) && list_all (λ slot. nat_lt slot 65536) pair.0 && is_of_kind kind pair.1

-- what holds of every variable
pub record IsVariable (contents : Contents) : Type 0 where
  pub few : contents.slots ≤ 6
  pub map : IsCellMap contents.cells
  pub pairs : IsTrue (list_all (is_pair_of contents.slots contents.kind) contents.cells)
