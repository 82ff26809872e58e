-- Patches of a finite map to cells. A patch gives a cell or NA for each key that it changes; its keys rise.
use Rattle.std.specs.Prelude.{ℕ, Bool as Truth, not, List, [], ◌∷◌, map}
use Rattle.std.specs.FinMap.{put}
use Rattle.std.specs.FinMap.Entries.{where_key}
use Rattle.std.specs.declared.cmp.Ordering.{Ordering}
use Rattle.aw_cell.specs.declared.cell.Cell.{Cell}
use Rattle.aw_cell.specs.declared.cell.Cell.TheVariants.{Na}
use Rattle.aw_cell.specs.Cell.{same_cell}
use Rattle.aw_page.specs.Fitting.{is_na}
use Rattle.aw_var.specs.CellMap.{Cells, by_slots, cell_by, set_by}

-- over keys in any order
module _ {K : Type 0} (order : K → K → Ordering) where
  -- a map overwritten key by key, in the order of the patch; NA takes a key away
  abbrev pub overwritten_by : List (K × Cell) → List (K × Cell) → List (K × Cell)
  overwritten_by cells [] = cells
  overwritten_by cells (change ∷ patch) = overwritten_by (set_by order cells change.0 change.1) patch

  -- two patches as one: the second decides where both have a key
  abbrev pub composed_by : List (K × Cell) → List (K × Cell) → List (K × Cell)
  composed_by first [] = first
  composed_by first (change ∷ second) = composed_by (put order change.0 change.1 first) second

  -- whether two maps differ at a key
  abbrev pub differ_by : List (K × Cell) → List (K × Cell) → K → Truth
  differ_by older newer key = not (same_cell (cell_by order older key) (cell_by order newer key))

  -- NA for each key that the older map alone has
  abbrev pub taken_away_by : List (K × Cell) → List (K × Cell) → List (K × Cell)
  taken_away_by older newer = map (λ pair. (pair.0, Na)) (where_key order (λ key. is_na (cell_by order newer key)) older)

  -- what makes the newer map of the older one: its cells where they differ, and NA for each key that the older map alone has
  abbrev pub difference_by : List (K × Cell) → List (K × Cell) → List (K × Cell)
  difference_by older newer = composed_by (taken_away_by older newer) (where_key order (differ_by older newer) newer)

abbrev pub overwritten : Cells → Cells → Cells
overwritten cells patch = overwritten_by by_slots cells patch

abbrev pub composed : Cells → Cells → Cells
composed first second = composed_by by_slots first second

abbrev pub differ_at : Cells → Cells → List ℕ → Truth
differ_at older newer key = differ_by by_slots older newer key

abbrev pub difference : Cells → Cells → Cells
difference older newer = difference_by by_slots older newer
