-- What holds of patches.
use Rattle.std.specs.Prelude.{ℕ, ◌≡◌, ◌↔◌, IsTrue, List, [], Some, None, cond}
use Rattle.std.specs.FinMap.{find, is_sorted}
use Rattle.aw_var.specs.CellMap.{Cells, by_slots, IsCellMap, cell_at}
use Rattle.aw_var.specs.CellPatch.{overwritten, composed, difference, differ_at}

-- the keys of a patch rise
abbrev pub IsRising : Cells → Type 0
IsRising patch = IsTrue (is_sorted by_slots patch)

-- the difference of two maps makes the newer one of the older
abbrev pub DifferenceGivesNewer : Type 0
DifferenceGivesNewer = (older newer : Cells) → IsCellMap older → IsCellMap newer → overwritten older (difference older newer) ≡ newer

-- a patch has exactly the keys at which two maps differ, with the newer cells, in rising order, and is nothing where they are equal
pub record TellsApart (older newer patch : Cells) : Type 0 where
  pub rising : IsRising patch
  pub keys : (key : List ℕ) → find by_slots key patch ≡ cond (differ_at older newer key) (Some (cell_at newer key)) None
  pub empty : (patch ≡ []) ↔ (older ≡ newer)

abbrev pub DifferenceTellsApart : Type 0
DifferenceTellsApart = (older newer : Cells) → IsCellMap older → IsCellMap newer → TellsApart older newer (difference older newer)

-- what is composed does what both do
abbrev pub ComposedDoesBoth : Type 0
ComposedDoesBoth = (cells first second : Cells) → IsCellMap cells → IsRising first →
    overwritten (overwritten cells first) second ≡ overwritten cells (composed first second)

-- a map that is overwritten stays a map
abbrev pub OverwrittenIsMap : Type 0
OverwrittenIsMap = (cells patch : Cells) → IsCellMap cells → IsCellMap (overwritten cells patch)
