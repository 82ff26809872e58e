-- What holds of every aggregation map.
use Rattle.std.specs.Prelude.{ℕ, ◌≡◌, Bool, nat_eq, is_some, List, length, IsTrue, All}
use Rattle.std.specs.List.{IsDistinct}
use Rattle.aw_cell.specs.declared.operator.Operator.{Operator}
use Rattle.dml_tree.specs.declared.definition.Remainder.TheVariants.{Unwritten}
use Rattle.agg_map.specs.declared.line.MapLine.{MapLine}
use Rattle.agg_map.specs.Maps.{rest_of, one_allocates}

-- the operator's shares leave a remainder
abbrev pub leaves_rest : Operator → Bool
leaves_rest operator = is_some (rest_of operator Unwritten)

-- each line has a dimension of its own; a line with an operator of an allocation is the only one; a line says where a
-- remainder goes exactly where there may be one
pub record IsSound (lines : List MapLine) (dimensions : List ℕ) : Type 0 where
  pub paired : length dimensions ≡ length lines
  pub differ : IsDistinct nat_eq dimensions
  pub alone : IsTrue (one_allocates lines) → length lines ≡ 1
  pub rests : All (λ line. is_some line.rest ≡ leaves_rest line.operator) lines
