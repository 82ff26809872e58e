-- What a statement asks for that passed the tests before its run: its expressions and values are evaluated.
use Rattle.std.specs.Prelude.{ℕ, List, [], ◌∷◌, Option, Some, None, Result, Ok, Err}
use Rattle.std.specs.Option.{option_map}
use Rattle.std.specs.List.{filter_map}
use Rattle.aw_cell.specs.declared.number.Arith.TheVariants.{Overflow, DivideByZero}
use Rattle.aw_schema.specs.declared.definition.Def.{Def}
use Rattle.aw_schema.specs.declared.definition.DefKind.{DefKind}
use Rattle.aw_schema.specs.declared.definition.DefKind.TheVariants.{Relation, Variable}
use Rattle.aw_schema.specs.Definitions as definition
use Rattle.mv_view.specs.ViewState.{ViewState, object_of}
use Rattle.dml_tree.specs.declared.expr.Expr.{Expr}
use Rattle.dml_tree.specs.declared.expr.Fix.{Fix as WrittenFix}
use Rattle.dml_tree.specs.declared.expr.Target.{Target as WrittenTarget}
use Rattle.dml_tree.specs.declared.statement.Statement.{Statement}
use Rattle.dml_tree.specs.declared.statement.Statement.TheVariants as statement
use Rattle.dml_kinds.specs.declared.checking.TypedExpr.{TypedExpr}
use Rattle.dml_kinds.specs.Checking.{typed}
use Rattle.dml_kinds.specs.Meanings.{names_in}
use Rattle.dml_exec.specs.declared.kinds.Fix.{Fix}
use Rattle.dml_loop.specs.declared.conversion.Target.{Target}
use Rattle.dml_loop.specs.declared.conversion.Target.TheVariants as target
use Rattle.dml_loop.specs.declared.fault.LoopFault.{LoopFault}
use Rattle.dml_loop.specs.declared.fault.LoopFault.TheVariants.{Arith, NoValue, Empty, TooMany, NoMemory}
use Rattle.ses_report.specs.declared.refusal.Refusal.{Refusal}
use Rattle.ses_report.specs.Refusals.{no_form, no_value, null_status, overflow, zero_divisor, too_many, not_attached}
use Rattle.ses_value.specs.declared.target.AssignedTo.{AssignedTo}
use Rattle.ses_value.specs.Evaluating.{shown_in, assigned_in}
use Rattle.ses_step.specs.declared.command.Asked.{Asked}
use Rattle.ses_step.specs.declared.command.Asked.TheVariants.{Runs, Refused}
use Rattle.ses_step.specs.declared.command.Command.{Command}
use Rattle.ses_step.specs.declared.command.Command.TheVariants as command
use Rattle.ses_step.specs.declared.session.Known.{Known}
use Rattle.ses_step.specs.Commands.{command_of}
use Rattle.ses_step.specs.Maintaining.{maintained_asked}
use Rattle.ses_step.specs.Refusing.{objects_named}
use Rattle.ses_step.specs.Sessions.{name_of}

-- a statement of a form that doesn't run yet is refused with 1
abbrev pub runs : Option Command → Asked
runs (Some own) = Runs own
runs None = Refused no_form

-- ---- refusals of a run

-- why a run is refused; want of memory is none
abbrev pub fault_refusal : List Def → LoopFault → Refusal
fault_refusal definitions (Arith Overflow) = overflow
fault_refusal definitions (Arith DivideByZero) = zero_divisor
fault_refusal definitions (NoValue text) = no_value text
fault_refusal definitions (Empty dimension) = null_status (name_of definitions dimension)
fault_refusal definitions TooMany = too_many
fault_refusal definitions NoMemory = no_form

-- a command of what a run gives, or its refusal
abbrev pub given : {A : Type 0} → List Def → (A → Command) → Result A LoopFault → Asked
given definitions own (Ok it) = Runs (own it)
given definitions own (Err fault) = Refused (fault_refusal definitions fault)

-- ---- expressions

-- an expression of a session's line, with its tree
abbrev pub typed_expression : List Def → Expr → TypedExpr
typed_expression definitions e = typed (names_in definitions [] []) [] e

-- a fixed value with its dimension by number, where that is defined
abbrev pub fix_of : List Def → WrittenFix → Option Fix
fix_of definitions fix = option_map (λ d. record { dimension = d; value = fix.value }) (definition.object_of definitions fix.dimension)

abbrev pub fixes_of : List Def → List WrittenFix → List Fix
fixes_of definitions fixes = filter_map (fix_of definitions) fixes

abbrev pub assigned_to : Target → List ℕ → List Fix → AssignedTo
assigned_to becomes dimensions fixes = record { target = becomes; dimensions = dimensions; fixes = fixes }

-- what is written to an object of this definition
abbrev pub target_of : DefKind → List Fix → Option AssignedTo
target_of (Variable kind dimensions) fixes = Some (assigned_to (target.Kind kind) dimensions fixes)
target_of (Relation goes_to base) fixes = Some (assigned_to (target.Relation goes_to) (base ∷ []) fixes)
target_of _ fixes = None

-- ---- by the view of the session

module _ (definitions : List Def) (view : ViewState) where
  abbrev pub shown_asked : Expr → Asked
  shown_asked e = given definitions command.Show (shown_in view (typed_expression definitions e))

  abbrev pub written_to : ℕ → Option AssignedTo → Expr → Asked
  written_to object None e = Refused no_form
  written_to object (Some to) e = given definitions (command.Write object) (assigned_in view to (typed_expression definitions e))

  -- an accepted assignment names a variable or a relation
  abbrev pub assigned_asked : WrittenTarget → Expr → Asked
  assigned_asked to e = elim (definition.object_of definitions to.name) [
    | None ↦ Refused no_form
    | Some object ↦ elim (object_of view object) [
      | None ↦ Refused no_form
      | Some found ↦ written_to object (target_of found.kind (fixes_of definitions to.fixes)) e
    ]
  ]

-- ---- a statement

abbrev pub on_view : Known → (ViewState → Asked) → Asked
on_view s asks = elim s.view [ None ↦ Refused not_attached | Some view ↦ asks view ]

-- MAINTAIN, of the dimension that it names
abbrev pub maintains : List Def → Known → Statement → Asked
maintains definitions s it = on_view s (λ view. maintained_asked definitions it view (objects_named definitions it))

abbrev pub meant : List Def → Known → Statement → Asked
meant definitions s (statement.Show e) = on_view s (λ view. shown_asked definitions view e)
meant definitions s (statement.Assign to e) = on_view s (λ view. assigned_asked definitions view to e)
meant definitions s (statement.Add dimension names place) = maintains definitions s (statement.Add dimension names place)
meant definitions s (statement.Delete dimension names) = maintains definitions s (statement.Delete dimension names)
meant definitions s (statement.Move dimension names place) = maintains definitions s (statement.Move dimension names place)
meant definitions s (statement.Rename dimension old new) = maintains definitions s (statement.Rename dimension old new)
meant definitions s one = runs (command_of one (objects_named definitions one))
