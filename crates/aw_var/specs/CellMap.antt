-- Finite maps to cells. A map is the list of its pairs, with keys that rise; no NA stands in it, so that one list stands for one
-- map. The cell at a key that the list lacks is NA.
use Rattle.std.specs.Prelude.{ℕ, not, cond, IsTrue, List, unwrap_or}
use Rattle.std.specs.List.{list_all}
use Rattle.std.specs.Ordering.{nat_cmp, eq_by_cmp}
use Rattle.std.specs.Cmp.Lexicographic.{slice_cmp}
use Rattle.std.specs.FinMap.{find, put, is_sorted}
use Rattle.std.specs.FinMap.Entries.{where_key}
use Rattle.std.specs.declared.cmp.Ordering.{Ordering}
use Rattle.aw_cell.specs.declared.cell.Cell.{Cell}
use Rattle.aw_cell.specs.declared.cell.Cell.TheVariants.{Na}
use Rattle.aw_page.specs.Fitting.{is_na}

-- over keys in any order
module _ {K : Type 0} (order : K → K → Ordering) where
  -- the keys rise, and no cell is NA
  pub record IsMapBy (cells : List (K × Cell)) : Type 0 where
    pub rising : IsTrue (is_sorted order cells)
    pub present : IsTrue (list_all (λ pair. not (is_na pair.1)) cells)

  -- the cell at a key
  abbrev pub cell_by : List (K × Cell) → K → Cell
  cell_by cells key = unwrap_or (find order key cells) Na

  -- the map without a key
  abbrev pub without_by : List (K × Cell) → K → List (K × Cell)
  without_by cells key = where_key order (λ other. not (eq_by_cmp order key other)) cells

  -- the map after one cell is set; NA takes the key away
  abbrev pub set_by : List (K × Cell) → K → Cell → List (K × Cell)
  set_by cells key cell = cond (is_na cell) (without_by cells key) (put order key cell cells)

-- coordinates are ordered by the first slot that differs, and then by their lengths
abbrev pub by_slots : List ℕ → List ℕ → Ordering
by_slots = slice_cmp nat_cmp

-- a key with its cell
abbrev pub KeyedCell : Type 0
KeyedCell = List ℕ × Cell

abbrev pub Cells : Type 0
Cells = List KeyedCell

abbrev pub IsCellMap : Cells → Type 0
IsCellMap cells = IsMapBy by_slots cells

abbrev pub cell_at : Cells → List ℕ → Cell
cell_at cells key = cell_by by_slots cells key

abbrev pub set_at : Cells → List ℕ → Cell → Cells
set_at cells key cell = set_by by_slots cells key cell
