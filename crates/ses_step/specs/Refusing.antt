-- Why a session's statement is refused before it runs. The first of these decides: the session isn't attached (15), or for AW
-- ATTACH is (16); it is attached for reading alone (23); names (2, 3, 7); what the session owns (19, 20), or types, dimensions and
-- weight (4, 5, 14), of which no statement has both; and a fixed value that its dimension lacks (6).
use Rattle.std.specs.Prelude.{ℕ, Bool, true, false, not, cond, map, List, [], ◌∷◌, length, drop, find, Option, Some, None, is_some, Result, Ok, Err}
use Rattle.std.specs.Option.{option_map, option_or}
use Rattle.aw_schema.specs.declared.definition.Def.{Def}
use Rattle.aw_schema.specs.Definitions as definition
use Rattle.aw_dim.specs.DimensionState.{slot_of}
use Rattle.aw_body.specs.declared.body.Body.{Body}
use Rattle.aw_body.specs.declared.body.Body.TheVariants.{Dim}
use Rattle.mv_view.specs.ViewState.{ObjectView}
use Rattle.dml_tree.specs.declared.expr.Fix.{Fix}
use Rattle.dml_tree.specs.declared.expr.Expr.{Expr, fold-Expr}
use Rattle.dml_tree.specs.declared.expr.Expr.TheOpen.{Expr-F}
use Rattle.dml_tree.specs.declared.statement.Mode.{Mode}
use Rattle.dml_tree.specs.declared.statement.Mode.TheVariants.{Multi, ReadOnly}
use Rattle.dml_tree.specs.declared.statement.Select.{Select}
use Rattle.dml_tree.specs.declared.statement.Select.TheVariants as select
use Rattle.dml_tree.specs.declared.statement.Statement.{Statement}
use Rattle.dml_tree.specs.declared.statement.Statement.TheVariants as statement
use Rattle.dml_kinds.specs.declared.fault.TypeFault.{TypeFault}
use Rattle.dml_kinds.specs.declared.fault.TypeFault.TheVariants.{Unknown, WrongKind, Repeat, Mismatch, Dimensions, TooMany, NoMemory}
use Rattle.dml_kinds.specs.Meanings.{names_in}
use Rattle.dml_types.specs.declared.checking.Typed.{Typed}
use Rattle.dml_types.specs.Checking.{statement_answer}
use Rattle.ses_report.specs.declared.refusal.Refusal.{Refusal}
use Rattle.ses_report.specs.Refusals.{no_form, unknown, wrong_kind, types_differ, dimensions_differ, no_value, repeated, too_many, not_attached, already_attached, not_acquired, acquired, read_only}
use Rattle.ses_step.specs.declared.session.Known.{Known}
use Rattle.ses_step.specs.Sessions.{seen_in}

-- ---- attached or not

abbrev pub attachment_refusal : Known → Statement → Option Refusal
attachment_refusal s (statement.Attach mode) = elim s.view [ None ↦ None | Some view ↦ Some already_attached ]
attachment_refusal s _ = elim s.view [ None ↦ Some not_attached | Some view ↦ None ]

-- ---- attached for reading alone

-- what acquires, gives up or publishes, and MAINTAIN, which needs its dimension owned
abbrev pub publishes : Statement → Bool
publishes (statement.Acquire keep fresh same) = true
publishes (statement.Release l) = true
publishes (statement.Update l) = true
publishes statement.Commit = true
publishes (statement.Add dimension l place) = true
publishes (statement.Delete dimension l) = true
publishes (statement.Move dimension l place) = true
publishes (statement.Rename dimension was text) = true
publishes _ = false

abbrev pub mode_refusal : Mode → Statement → Option Refusal
mode_refusal Multi s = None
mode_refusal ReadOnly s = cond (publishes s) (Some read_only) None

-- ---- names and types

-- what is wrong with names, types, dimensions or weight, as a refusal; want of memory is none
abbrev pub told : TypeFault → Refusal
told (Unknown name) = unknown name
told (WrongKind name) = wrong_kind name
told (Repeat name) = repeated name
told Mismatch = types_differ
told Dimensions = dimensions_differ
told TooMany = too_many
told NoMemory = no_form

-- a statement of a session, which has no locals; no object has a text yet
abbrev pub checked : List Def → Statement → Result Typed TypeFault
checked definitions s = statement_answer (names_in definitions [] []) [] [] s

-- the objects that an accepted statement names outside of expressions, in the order written
abbrev pub objects_of : Result Typed TypeFault → List ℕ
objects_of (Err fault) = []
objects_of (Ok typed) = map (λ (named : List ℕ × ℕ). named.1) typed.objects

abbrev pub objects_named : List Def → Statement → List ℕ
objects_named definitions s = objects_of (checked definitions s)

-- ---- what the session owns

abbrev pub owns_seen : Option ObjectView → Bool
owns_seen None = false
owns_seen (Some found) = found.owned

-- objects stand with their names
abbrev pub owns : Known → List ℕ × ℕ → Bool
owns s named = owns_seen (seen_in s named.1)

abbrev pub first_owned : Known → List (List ℕ × ℕ) → Option Refusal
first_owned s objects = option_map (λ (named : List ℕ × ℕ). acquired named.0) (find (owns s) objects)

abbrev pub first_foreign : Known → List (List ℕ × ℕ) → Option Refusal
first_foreign s objects = option_map (λ (named : List ℕ × ℕ). not_acquired named.0) (find (λ named. not (owns s named)) objects)

-- by the objects that the statement names, in the order written: of ACQUIRE those behind the plain ones
abbrev pub held_refusal : Known → Statement → List (List ℕ × ℕ) → Option Refusal
held_refusal s (statement.Acquire keep fresh same) objects = first_owned s (drop (length keep) objects)
held_refusal s (statement.Resync l) objects = first_owned s objects
held_refusal s (statement.Release l) objects = first_foreign s objects
held_refusal s (statement.Update l) objects = first_foreign s objects
held_refusal s (statement.Add dimension l place) objects = first_foreign s objects
held_refusal s (statement.Delete dimension l) objects = first_foreign s objects
held_refusal s (statement.Move dimension l place) objects = first_foreign s objects
held_refusal s (statement.Rename dimension was text) objects = first_foreign s objects
held_refusal s _ objects = None

-- ---- fixed values

abbrev pub holds : Body → List ℕ → Bool
holds (Dim values) text = is_some (slot_of values text)
holds _ text = false

abbrev pub holds_seen : Option ObjectView → List ℕ → Bool
holds_seen None text = false
holds_seen (Some found) text = holds found.private text

module _ (definitions : List Def) (s : Known) where
  -- the dimension as the session has it has the value
  abbrev pub has_value : Fix → Bool
  has_value fix = elim (definition.object_of definitions fix.dimension) [ None ↦ false | Some object ↦ holds_seen (seen_in s object) fix.value ]

  -- the first value that its dimension lacks
  abbrev pub missing_among : List Fix → Option (List ℕ)
  missing_among fixes = option_map (λ (fix : Fix). fix.value) (find (λ fix. not (has_value fix)) fixes)

  -- of one level of an expression, by those of its operands
  abbrev pub level_missing : Expr-F (Option (List ℕ)) → Option (List ℕ)
  level_missing (Expr-F.Object target) = missing_among target.fixes
  level_missing (Expr-F.Grouped inner) = inner
  level_missing (Expr-F.Not operand) = operand
  level_missing (Expr-F.Negative operand) = operand
  level_missing (Expr-F.Abs operand) = operand
  level_missing (Expr-F.Joined joint left right) = option_or left right
  level_missing (Expr-F.If condition first second) = option_or condition (option_or first second)
  level_missing _ = None

  abbrev pub missing_in : Expr → Option (List ℕ)
  missing_in = fold-Expr (Option (List ℕ)) level_missing

  abbrev pub missing_in_all : List Expr → Option (List ℕ)
  missing_in_all [] = None
  missing_in_all (e ∷ es) = option_or (missing_in e) (missing_in_all es)

  -- the values that a selection lists belong to its run
  abbrev pub missing_in_select : Select → Option (List ℕ)
  missing_in_select (select.Top count by) = missing_in by
  missing_in_select (select.Bottom count by) = missing_in by
  missing_in_select (select.Where test) = missing_in test
  missing_in_select _ = None

  abbrev pub missing : Statement → Option (List ℕ)
  missing (statement.Assign target e) = option_or (missing_among target.fixes) (missing_in e)
  missing (statement.Show e) = missing_in e
  missing (statement.Report e) = missing_in e
  missing (statement.Limit name how what) = missing_in_select what
  missing (statement.Call program arguments) = missing_in_all arguments
  missing _ = None

  -- ---- all of them

  abbrev pub checked_refusal : Statement → Result Typed TypeFault → Option Refusal
  checked_refusal statement (Err fault) = Some (told fault)
  checked_refusal statement (Ok typed) = option_or (held_refusal s statement typed.objects) (option_map no_value (missing statement))

  abbrev pub statement_refusal : Statement → Option Refusal
  statement_refusal statement =
      option_or (attachment_refusal s statement) (option_or (mode_refusal s.mode statement) (checked_refusal statement (checked definitions statement)))
