-- What an expression sees of a session's view.
use Rattle.std.specs.Prelude.{ℕ, List, [], Option, Some, None, unwrap_or}
use Rattle.std.specs.Option.{option_and_then}
use Rattle.aw_cell.specs.declared.cell.Cell.{Cell}
use Rattle.aw_cell.specs.declared.cell.Cell.TheVariants.{Na, Text}
use Rattle.aw_dim.specs.DimensionState.{DimensionState, slot_of, name_of}
use Rattle.aw_status.specs.Rules.{all_slots}
use Rattle.mv_view.specs.ViewState.{ViewState}
use Rattle.mv_view.specs.Rules.{values_in, read}
use Rattle.dml_compile.specs.Values.{Seen}

-- the slot of a value of a dimension
abbrev pub slot_in : ViewState → ℕ → List ℕ → Option ℕ
slot_in view dimension value = option_and_then (λ (values : DimensionState). slot_of values value) (values_in view dimension)

-- a name as a cell
abbrev pub text_or_na : Option (List ℕ) → Cell
text_or_na (Some name) = Text name
text_or_na None = Na

-- the name of the value with a slot, or NA where there is none
abbrev pub name_in : ViewState → ℕ → ℕ → Cell
name_in view dimension slot = text_or_na (option_and_then (λ (values : DimensionState). name_of values slot) (values_in view dimension))

-- the status of a dimension: all its values, in its order. No statement limits it yet
abbrev pub status_in : ViewState → ℕ → List ℕ
status_in view dimension = elim (values_in view dimension) [ Some values ↦ all_slots values | None ↦ [] ]

-- private cells, and names and slots of the values that the session sees; a line has no locals
abbrev pub seen_in : ViewState → Seen
seen_in view = record {
  cell = read view;
  name = name_in view;
  slot = λ dimension value. unwrap_or (slot_in view dimension value) 0;
  locals = [];
}
