-- Coordinates from their packed numbers.
use Rattle.std.specs.Prelude.{ℕ, ◌≤◌, ◌/◌, ◌%◌, ◌^◌, nat_lt, zero, suc, IsTrue, List, [], ◌∷◌, map}
use Rattle.std.specs.List.{list_all}
use Rattle.aw_cell.specs.declared.cell.Cell.{Cell}
use Rattle.aw_var.specs.CellMap.{Cells}

-- so many slots that pack to a number
abbrev pub unpacked : ℕ → ℕ → List ℕ
unpacked zero number = []
unpacked (suc slots) number = number / 65536 ^ slots ∷ unpacked slots (number % 65536 ^ slots)

-- a map with coordinates in place of their numbers
abbrev pub with_coords : ℕ → List (ℕ × Cell) → Cells
with_coords slots cells = map (λ pair. (unpacked slots pair.0, pair.1)) cells

-- the numbers are those of keys with so many slots
pub record AreNumbersOf (slots : ℕ) (cells : List (ℕ × Cell)) : Type 0 where
  pub few : slots ≤ 6
  pub below : IsTrue (list_all (λ pair. nat_lt pair.0 (65536 ^ slots)) cells)
