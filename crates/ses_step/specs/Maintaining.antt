-- What MAINTAIN asks for: the values that its dimension has from now on, or why it is refused.
use Rattle.std.specs.Prelude.{ℕ, Bool, true, not, ◌&&◌, ◌==◌, nat_lt, nat_le, cond, List, [], ◌∷◌, length, Option, Some, None}
use Rattle.std.specs.List.{list_all, list_any}
use Rattle.std.specs.Str.{bytes_eq}
use Rattle.aw_cell.specs.Text.{is_text}
use Rattle.aw_dim.specs.DimensionState.{Entry, DimensionState}
use Rattle.aw_schema.specs.declared.definition.Def.{Def}
use Rattle.aw_schema.specs.declared.definition.DefKind.{DefKind}
use Rattle.aw_schema.specs.declared.definition.DefKind.TheVariants.{Dimension}
use Rattle.aw_body.specs.declared.body.Body.{Body}
use Rattle.aw_body.specs.declared.body.Body.TheVariants.{Dim}
use Rattle.mv_view.specs.ViewState.{ViewState, object_of}
use Rattle.dml_tree.specs.declared.statement.Statement.{Statement}
use Rattle.dml_tree.specs.declared.statement.Statement.TheVariants as statement
use Rattle.dim_maintain.specs.declared.fault.MaintainFault.{MaintainFault}
use Rattle.dim_maintain.specs.declared.fault.MaintainFault.TheVariants.{NoValue, Repeated, Full, NoMemory}
use Rattle.dim_maintain.specs.Causes.{added_cause, deleted_cause, moved_cause, renamed_cause}
use Rattle.dim_maintain.specs.Maintained.{added, deleted, moved, renamed}
use Rattle.ses_report.specs.declared.refusal.Refusal.{Refusal}
use Rattle.ses_report.specs.Refusals as refusal
use Rattle.ses_step.specs.declared.command.Asked.{Asked}
use Rattle.ses_step.specs.declared.command.Asked.TheVariants.{Runs, Refused}
use Rattle.ses_step.specs.declared.command.Command.TheVariants as command
use Rattle.ses_step.specs.Sessions.{name_of}

-- ---- whether values are those of a dimension

-- no two of them are the same
abbrev pub all_apart : {X : Type 0} → (X → X → Bool) → List X → Bool
all_apart same [] = true
all_apart same (x ∷ xs) = not (list_any (same x) xs) && all_apart same xs

abbrev pub same_slot : Entry → Entry → Bool
same_slot one other = one.0 == other.0

abbrev pub same_name : Entry → Entry → Bool
same_name one other = bytes_eq one.1 other.1

-- a name is a text that isn't empty
abbrev pub is_named : Entry → Bool
is_named entry = is_text entry.1 && not (length entry.1 == 0)

abbrev pub is_below : ℕ → Entry → Bool
is_below next entry = nat_lt entry.0 next

abbrev pub is_dimension : DimensionState → Bool
is_dimension values =
    all_apart same_slot values.entries && (all_apart same_name values.entries
    && (list_all (is_below values.next) values.entries && (list_all is_named values.entries && nat_le values.next 65536)))

-- ---- what a statement makes of them

-- any other statement leaves them
abbrev pub change_of : Statement → DimensionState → DimensionState
change_of (statement.Add dimension names place) values = added values names place
change_of (statement.Delete dimension names) values = deleted values names
change_of (statement.Move dimension names place) values = moved values names place
change_of (statement.Rename dimension old new) values = renamed values old new
change_of it values = values

abbrev pub cause_of : Statement → DimensionState → Option MaintainFault
cause_of (statement.Add dimension names place) values = added_cause values names place
cause_of (statement.Delete dimension names) values = deleted_cause values names
cause_of (statement.Move dimension names place) values = moved_cause values names place
cause_of (statement.Rename dimension old new) values = renamed_cause values old new
cause_of it values = None

-- the dimension is named where its slots are used up; want of memory is none
abbrev pub maintain_refusal : List ℕ → MaintainFault → Refusal
maintain_refusal dimension (NoValue text) = refusal.no_value text
maintain_refusal dimension (Repeated text) = refusal.repeated text
maintain_refusal dimension Full = refusal.full dimension
maintain_refusal dimension NoMemory = refusal.no_form

-- what is made of the values of a dimension are always such values
abbrev pub changed : List ℕ → ℕ → Option MaintainFault → DimensionState → Asked
changed name object (Some fault) values = Refused (maintain_refusal name fault)
changed name object None values = cond (is_dimension values) (Runs (command.Maintain object values)) (Refused refusal.no_form)

-- ---- by the view of the session

abbrev pub values_held : DefKind → Body → Option DimensionState
values_held Dimension (Dim values) = Some values
values_held _ _ = None

-- the values of a dimension that it sees
abbrev pub dimension_in : ViewState → ℕ → Option DimensionState
dimension_in view object = elim (object_of view object) [ None ↦ None | Some found ↦ values_held found.kind found.private ]

module _ (definitions : List Def) (it : Statement) where
  abbrev pub of_values : ℕ → Option DimensionState → Asked
  of_values object None = Refused refusal.no_form
  of_values object (Some values) = changed (name_of definitions object) object (cause_of it values) (change_of it values)

  -- the dimension is the one object that the statement names
  abbrev pub maintained_asked : ViewState → List ℕ → Asked
  maintained_asked view (object ∷ []) = of_values object (dimension_in view object)
  maintained_asked view _ = Refused refusal.no_form
