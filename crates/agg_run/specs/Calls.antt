-- What a call is over: the lines of a map, the dimensions and the relations.
use Rattle.std.specs.Prelude.{ℕ, ◌≡◌, ◌==◌, suc, cond, map, All, ⊤, IsTrue, List, [], ◌∷◌, slice_index_or}
use Rattle.aw_cell.specs.declared.cell.Kind.{Kind}
use Rattle.aw_cell.specs.declared.cell.Kind.TheVariants.{Num, Int, Slot as SlotKind}
use Rattle.aw_dim.specs.DimensionState.{DimensionState}
use Rattle.aw_rel.specs.Hierarchy.{tree_of, is_among}
use Rattle.aw_var.specs.Variable.{Contents}
use Rattle.agg_map.specs.declared.line.MapLine.{MapLine}
use Rattle.agg_map.specs.Maps.{Map}
use Rattle.agg_run.specs.Aggregates.{Line}

abbrev pub IsNumeric : Kind → Type 0
IsNumeric Num = ⊤
IsNumeric Int = ⊤
IsNumeric _ = ⊥

-- keys of one slot, and cells that are slots
abbrev pub AreRelations : List Contents → Type 0
AreRelations parents = All (λ relation. (relation.slots ≡ 1) × (relation.kind ≡ SlotKind)) parents

abbrev pub AreAmong : List ℕ → List ℕ → Type 0
AreAmong some all = All (λ number. IsTrue (is_among all number)) some

-- the slots of each dimension's values, in their order
abbrev pub values_of : List DimensionState → List (List ℕ)
values_of dimensions = map (λ dimension. map (λ entry. entry.0) dimension.entries) dimensions

-- where a number stands first, or the length
abbrev pub place_in : List ℕ → ℕ → ℕ
place_in [] number = 0
place_in (first ∷ numbers) number = cond (first == number) 0 (suc (place_in numbers number))

abbrev pub no_values : DimensionState
no_values = record { entries = []; next = 0 }

-- the lines, each with its dimension and its relation
abbrev pub lines_along : List MapLine → List ℕ → List ℕ → List DimensionState → List Contents → List Line
lines_along (line ∷ lines) (dimension ∷ numbers) over dimensions (relation ∷ parents) =
    record {
      tree = tree_of (slice_index_or dimensions (place_in over dimension) no_values) relation.cells;
      place = place_in over dimension;
      operator = line.operator;
    } ∷ lines_along lines numbers over dimensions parents
lines_along _ _ over dimensions _ = []

abbrev pub lines_of : Map → List ℕ → List DimensionState → List Contents → List Line
lines_of map over dimensions parents = lines_along map.lines map.dimensions over dimensions parents
