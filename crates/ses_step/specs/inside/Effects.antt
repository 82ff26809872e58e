-- What a statement that was checked asks for, by its typed expressions and by what the definitions say of the names in it.
use Rattle.std.specs.Prelude.{ℕ, List, [], ◌∷◌, map, All, IsTrue, slice_get, Option, Some, None}
use Rattle.std.specs.List.{list_all}
use Rattle.aw_schema.specs.declared.definition.Def.{Def}
use Rattle.aw_schema.specs.Definitions as definition
use Rattle.mv_view.specs.ViewState.{ViewState}
use Rattle.dml_tree.specs.declared.expr.Target.{Target}
use Rattle.dml_tree.specs.declared.statement.Statement.{Statement}
use Rattle.dml_tree.specs.declared.statement.Statement.TheVariants as statement
use Rattle.dml_kinds.specs.declared.checking.TypedExpr.{TypedExpr}
use Rattle.dml_kinds.specs.FreeDimensions.{is_among}
use Rattle.dml_kinds.specs.Meanings.{names_in, dimensions_named}
use Rattle.dml_types.specs.declared.checking.Typed.{Typed}
use Rattle.ses_report.specs.Refusals.{no_form}
use Rattle.ses_value.specs.declared.target.AssignedTo.{AssignedTo}
use Rattle.ses_value.specs.Evaluating.{shown_in, assigned_in}
use Rattle.ses_step.specs.declared.command.Asked.{Asked}
use Rattle.ses_step.specs.declared.command.Asked.TheVariants.{Refused}
use Rattle.ses_step.specs.declared.command.Command.TheVariants as command
use Rattle.ses_step.specs.declared.session.Known.{Known}
use Rattle.ses_step.specs.Commands.{command_of}
use Rattle.ses_step.specs.Maintaining.{maintained_asked}
use Rattle.ses_step.specs.Meant.{runs, given, fixes_of, target_of, on_view}

-- the dimensions of an expression are those of a target
abbrev pub IsOver : List Def → Target → TypedExpr → Type 0
IsOver definitions to one = IsTrue (list_all (is_among (dimensions_named (names_in definitions [] []) to.name)) one.dimensions)

-- and those of each expression that is assigned
abbrev pub AreOver : List Def → Statement → List TypedExpr → Type 0
AreOver definitions (statement.Assign to e) all = All (IsOver definitions to) all
AreOver definitions _ all = Unit {0}

abbrev pub written_by : List Def → ViewState → ℕ → Option AssignedTo → TypedExpr → Asked
written_by definitions view object None one = Refused no_form
written_by definitions view object (Some to) one = given definitions (command.Write object) (assigned_in view to one)

abbrev pub assigned_by : List Def → ViewState → Target → TypedExpr → Asked
assigned_by definitions view to one = elim (definition.object_of definitions to.name) [
  | None ↦ Refused no_form
  | Some object ↦ elim (slice_get definitions object) [
    | None ↦ Refused no_form
    | Some def ↦ written_by definitions view object (target_of def.kind (fixes_of definitions to.fixes)) one
  ]
]

abbrev pub first_shown : List Def → Known → List TypedExpr → Asked
first_shown definitions s [] = Refused no_form
first_shown definitions s (one ∷ all) = on_view s (λ view. given definitions command.Show (shown_in view one))

abbrev pub first_assigned : List Def → Known → Target → List TypedExpr → Asked
first_assigned definitions s to [] = Refused no_form
first_assigned definitions s to (one ∷ all) = on_view s (λ view. assigned_by definitions view to one)

abbrev pub maintained_by : List Def → Known → Statement → Typed → Asked
maintained_by definitions s it typed = on_view s (λ view. maintained_asked definitions it view (map (λ (named : List ℕ × ℕ). named.1) typed.objects))

-- what the expressions or values of a statement come to, of one that has a run of its own
abbrev pub evaluated : List Def → Known → Statement → Typed → Option Asked
evaluated definitions s (statement.Show e) typed = Some (first_shown definitions s typed.expressions)
evaluated definitions s (statement.Assign to e) typed = Some (first_assigned definitions s to typed.expressions)
evaluated definitions s (statement.Add dimension names place) typed = Some (maintained_by definitions s (statement.Add dimension names place) typed)
evaluated definitions s (statement.Delete dimension names) typed = Some (maintained_by definitions s (statement.Delete dimension names) typed)
evaluated definitions s (statement.Move dimension names place) typed = Some (maintained_by definitions s (statement.Move dimension names place) typed)
evaluated definitions s (statement.Rename dimension old new) typed = Some (maintained_by definitions s (statement.Rename dimension old new) typed)
evaluated definitions s it typed = None

abbrev pub effect : List Def → Known → Statement → Typed → Asked
effect definitions s it typed = elim (evaluated definitions s it typed) [
  | Some asked ↦ asked
  | None ↦ runs (command_of it (map (λ (named : List ℕ × ℕ). named.1) typed.objects))
]
