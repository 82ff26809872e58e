-- What holds of aggregations by sums.
use Rattle.std.specs.Prelude.{ℕ, ◌≡◌, ◌≢◌, ◌<◌, List, [], ◌∷◌, map, length, slice_set, slice_index_or, IsTrue, All}
use Rattle.std.specs.List.{AllPairs, flat_map}
use Rattle.aw_cell.specs.declared.cell.Kind.{Kind}
use Rattle.aw_cell.specs.declared.operator.Operator.TheVariants.{Sum}
use Rattle.aw_rel.specs.Hierarchy.{slots_in, leaves_in, IsHierarchy}
use Rattle.aw_var.specs.CellMap.{Cells}
use Rattle.agg_run.specs.Numbers.{operated}
use Rattle.agg_run.specs.Aggregates.{Line, slot_at, is_combination, numbers_at, number_after}

-- the keys with a leaf below each of a key's values in the lines' dimensions; its other values stay
abbrev pub leaf_keys : List Line → List ℕ → List (List ℕ)
leaf_keys [] key = key ∷ []
leaf_keys (line ∷ lines) key = flat_map (λ leaf. leaf_keys lines (slice_set key line.place leaf)) (leaves_in line.tree (slot_at key line.place))

-- lines of sums along hierarchies of different dimensions
pub record AreSums (dimensions : List (List ℕ)) (lines : List Line) : Type 0 where
  pub sums : All (λ line. line.operator ≡ Sum) lines
  pub hierarchies : All (λ line. IsHierarchy line.tree) lines
  pub places : All (λ line. line.place < length dimensions) lines
  pub values : All (λ line. slots_in line.tree ≡ slice_index_or dimensions line.place []) lines
  pub apart : AllPairs (λ one other. one.place ≢ other.place) lines

-- the number at a combination afterwards is the sum of the numbers before over the product of the leaves of its values
abbrev pub SumsAreOverLeaves : Type 0
SumsAreOverLeaves = (kind : Kind) (dimensions : List (List ℕ)) (lines : List Line) (cells : Cells) (key : List ℕ) → AreSums dimensions lines → IsTrue (is_combination dimensions key) →
    number_after kind dimensions lines cells key ≡ operated kind Sum (map (λ leaf_key. numbers_at dimensions cells leaf_key) (leaf_keys lines key))
