-- What a statement's parts come to is what the statement means.
use Rattle.std.specs.Prelude.{ℕ, ◌≡◌, List, [], map, IsTrue, slice_get, Option, Some, None, IfSome, Ok, Err, Result, IfOk}
use Rattle.std.specs.List.{list_all}
use Rattle.std.specs.Option.{option_map, option_and_then}
use Rattle.std.proofs.Common.{◌∙◌, ap, refl, sym, subst}
use Rattle.aw_schema.specs.declared.definition.Def.{Def}
use Rattle.aw_schema.specs.declared.definition.DefKind.{DefKind}
use Rattle.aw_schema.specs.declared.definition.DefKind.TheVariants.{Dimension, Relation, Valueset, Variable, Formula, Program, Aggmap}
use Rattle.aw_schema.specs.Definitions as definition
use Rattle.mv_view.specs.ViewState.{ObjectView, ViewState, object_of, kind_of, kinds_of, kept_kind, kept_kinds}
use Rattle.dml_tree.specs.declared.expr.Expr.{Expr}
use Rattle.dml_tree.specs.declared.expr.Target.{Target}
use Rattle.dml_tree.specs.declared.statement.Statement.{Statement}
use Rattle.dml_tree.specs.declared.statement.Statement.TheVariants as statement
use Rattle.dml_kinds.specs.declared.checking.TypedExpr.{TypedExpr}
use Rattle.dml_kinds.specs.FreeDimensions.{is_among}
use Rattle.dml_kinds.specs.declared.meaning.Known.{Known as Told}
use Rattle.dml_kinds.specs.declared.meaning.Meaning.{Meaning}
use Rattle.dml_kinds.specs.Meanings.{names_in, dimensions_named, dimensions_in, meaning_of, object_known, object_defined}
use Rattle.dml_exec.specs.declared.kinds.Fix.{Fix}
use Rattle.dml_types.specs.declared.checking.Typed.{Typed}
use Rattle.ses_report.specs.declared.refusal.Refusal.{Refusal}
use Rattle.ses_report.specs.Refusals.{no_form, not_attached}
use Rattle.ses_value.specs.declared.target.AssignedTo.{AssignedTo}
use Rattle.ses_step.specs.declared.command.Asked.{Asked}
use Rattle.ses_step.specs.declared.command.Asked.TheVariants.{Refused}
use Rattle.ses_step.specs.declared.session.Known.{Known}
use Rattle.ses_step.specs.Commands.{command_of}
use Rattle.ses_step.specs.Maintaining.{maintained_asked}
use Rattle.ses_step.specs.Meant.{runs, fixes_of, target_of, typed_expression, written_to, assigned_asked, on_view, meant}
use Rattle.ses_step.specs.inside.Effects.{IsOver, written_by, assigned_by, first_shown, first_assigned, evaluated, effect}
use Rattle.ses_step.specs.Refusing.{checked, objects_of}
use Rattle.ses_step.specs.SessionLines.{asked_unless}
use Rattle.ses_step.specs.Sessions.{Sees}
use Rattle.ses_step.proofs.Seeing.{kind-at}
use Rattle.ses_step.proofs.SessionChecks.{typed-expressions}

-- ---- what is assigned to

-- nothing is written to an object that isn't kept
abbrev by_kind : List Def → ViewState → ℕ → List Fix → TypedExpr → Option DefKind → Asked
by_kind definitions view object fixes one None = Refused no_form
by_kind definitions view object fixes one (Some kind) = written_by definitions view object (target_of kind fixes) one

module _ (definitions : List Def) (view : ViewState) (object : ℕ) (fixes : List Fix) (one : TypedExpr) where
  of-seen : (seen : Option ObjectView) → elim seen as (λ _. Asked) [ None ↦ Refused no_form | Some found ↦ written_by definitions view object (target_of found.kind fixes) one ] ≡ by_kind definitions view object fixes one (option_map kind_of seen)
  of-seen None = refl
  of-seen (Some found) = refl

  of-kept : (name : List ℕ) (kind : DefKind) → written_by definitions view object (target_of kind fixes) one ≡ by_kind definitions view object fixes one (kept_kind (record { name = name; kind = kind }))
  of-kept name Dimension = refl
  of-kept name (Relation target base) = refl
  of-kept name (Valueset dimension) = refl
  of-kept name (Variable kind dimensions) = refl
  of-kept name (Formula text) = refl
  of-kept name (Program text) = refl
  of-kept name (Aggmap text) = refl

  of-def : (found : Option Def) → elim found as (λ _. Asked) [ None ↦ Refused no_form | Some def ↦ written_by definitions view object (target_of def.kind fixes) one ] ≡ by_kind definitions view object fixes one (option_and_then kept_kind found)
  of-def None = refl
  of-def (Some def) = of-kept def.name def.kind

  of-both : kinds_of view ≡ kept_kinds definitions
      → elim (slice_get definitions object) as (λ _. Asked) [ None ↦ Refused no_form | Some def ↦ written_by definitions view object (target_of def.kind fixes) one ]
      ≡ elim (object_of view object) as (λ _. Asked) [ None ↦ Refused no_form | Some found ↦ written_by definitions view object (target_of found.kind fixes) one ]
  of-both same =
      of-def (slice_get definitions object)
      ∙ ap (by_kind definitions view object fixes one) (sym (kind-at view definitions same object))
      ∙ sym (of-seen (object_of view object))

module _ (definitions : List Def) (view : ViewState) where
  of-target : (object : ℕ) (to : Option AssignedTo) (e : Expr) → written_by definitions view object to (typed_expression definitions e) ≡ written_to definitions view object to e
  of-target object None e = refl
  of-target object (Some to) e = refl

  of-object : (object : ℕ) (fixes : List Fix) (e : Expr) (seen : Option ObjectView)
      → elim seen as (λ _. Asked) [ None ↦ Refused no_form | Some found ↦ written_by definitions view object (target_of found.kind fixes) (typed_expression definitions e) ]
      ≡ elim seen as (λ _. Asked) [ None ↦ Refused no_form | Some found ↦ written_to definitions view object (target_of found.kind fixes) e ]
  of-object object fixes e None = refl
  of-object object fixes e (Some found) = of-target object (target_of found.kind fixes) e

  assigned-same : kinds_of view ≡ kept_kinds definitions → (to : Target) (e : Expr) → assigned_by definitions view to (typed_expression definitions e) ≡ assigned_asked definitions view to e
  assigned-same same to e = by (definition.object_of definitions to.name)
    where
      by : (named : Option ℕ)
          → elim named as (λ _. Asked) [
            | None ↦ Refused no_form
            | Some object ↦ elim (slice_get definitions object) as (λ _. Asked) [
              | None ↦ Refused no_form
              | Some def ↦ written_by definitions view object (target_of def.kind (fixes_of definitions to.fixes)) (typed_expression definitions e)
            ]
          ]
          ≡ elim named as (λ _. Asked) [
            | None ↦ Refused no_form
            | Some object ↦ elim (object_of view object) as (λ _. Asked) [
              | None ↦ Refused no_form
              | Some found ↦ written_to definitions view object (target_of found.kind (fixes_of definitions to.fixes)) e
            ]
          ]
      by None = refl
      by (Some object) =
          of-both definitions view object (fixes_of definitions to.fixes) (typed_expression definitions e) same
          ∙ of-object object (fixes_of definitions to.fixes) e (object_of view object)

-- ---- the dimensions of what is assigned to

abbrev of_known : Option Told → List ℕ
of_known known = elim (option_map (λ (one : Told). one.meaning) known) as (λ _. List ℕ) [ Some meaning ↦ dimensions_in meaning | None ↦ [] ]

abbrev dimensions_to : Option AssignedTo → List ℕ
dimensions_to None = []
dimensions_to (Some to) = to.dimensions

by-kind : (name : List ℕ) (object : ℕ) (kind : DefKind) (fixes : List Fix) (becomes : AssignedTo) → target_of kind fixes ≡ Some becomes
    → of_known (option_map (λ (m : Meaning). record { name = name; meaning = m }) (meaning_of [] object kind)) ≡ becomes.dimensions
by-kind name object (Variable k dimensions) fixes becomes is = ap dimensions_to is
by-kind name object (Relation target base) fixes becomes is = ap dimensions_to is
by-kind name object Dimension fixes becomes is = cc
by-kind name object (Valueset dimension) fixes becomes is = cc
by-kind name object (Formula text) fixes becomes is = cc
by-kind name object (Program text) fixes becomes is = cc
by-kind name object (Aggmap text) fixes becomes is = cc

module _ (definitions : List Def) (to : Target) where
  over-named : (object : ℕ) (def : Def) (fixes : List Fix) (becomes : AssignedTo) → definition.object_of definitions to.name ≡ Some object → slice_get definitions object ≡ Some def
      → target_of def.kind fixes ≡ Some becomes → dimensions_named (names_in definitions [] []) to.name ≡ becomes.dimensions
  unfolding names_in
  over-named object def fixes becomes found there is =
      ap (λ (o : Option ℕ). of_known (option_and_then (object_known definitions []) o)) found
      ∙ ap (λ (o : Option Def). of_known (option_and_then (object_defined [] object) o)) there
      ∙ by-kind def.name object def.kind fixes becomes is

  pub target_over : (object : ℕ) (def : Def) (fixes : List Fix) (becomes : AssignedTo) (one : TypedExpr) → definition.object_of definitions to.name ≡ Some object → slice_get definitions object ≡ Some def
      → target_of def.kind fixes ≡ Some becomes → IsOver definitions to one → IsTrue (list_all (is_among becomes.dimensions) one.dimensions)
  target_over object def fixes becomes one found there is over =
      subst (λ (dimensions : List ℕ). IsTrue (list_all (is_among dimensions) one.dimensions)) (over-named object def fixes becomes found there is) over

-- ---- a statement

module _ (definitions : List Def) (s : Known) (sees : Sees definitions s) where
  on-same : (one other : ViewState → Asked) → ((view : ViewState) → s.view ≡ Some view → one view ≡ other view) → on_view s one ≡ on_view s other
  on-same one other same = by s.view refl
    where
      by : (view : Option ViewState) → s.view ≡ view → elim view as (λ _. Asked) [ None ↦ Refused not_attached | Some v ↦ one v ] ≡ elim view as (λ _. Asked) [ None ↦ Refused not_attached | Some v ↦ other v ]
      by None is = refl
      by (Some view) is = same view is

  of_them : (view : ViewState) → s.view ≡ Some view → kinds_of view ≡ kept_kinds definitions
  of_them view is = subst (λ (v : Option ViewState). IfSome v (λ one. kinds_of one ≡ kept_kinds definitions)) is sees

  effect-meant : (it : Statement) (typed : Typed) → checked definitions it ≡ Ok typed → effect definitions s it typed ≡ meant definitions s it
  effect-meant (statement.Show e) typed is = ap (first_shown definitions s) (typed-expressions definitions (statement.Show e) typed is)
  effect-meant (statement.Assign to e) typed is =
      ap (first_assigned definitions s to) (typed-expressions definitions (statement.Assign to e) typed is)
      ∙ on-same (λ view. assigned_by definitions view to (typed_expression definitions e)) (λ view. assigned_asked definitions view to e)
      (λ view there. assigned-same definitions view (of_them view there) to e)
  effect-meant (statement.Release l) typed is = ap (λ found. runs (command_of (statement.Release l) (objects_of found))) (sym is)
  effect-meant (statement.Update l) typed is = ap (λ found. runs (command_of (statement.Update l) (objects_of found))) (sym is)
  effect-meant (statement.Attach mode) typed is = ap (λ found. runs (command_of (statement.Attach mode) (objects_of found))) (sym is)
  effect-meant statement.Detach typed is = ap (λ found. runs (command_of statement.Detach (objects_of found))) (sym is)
  effect-meant statement.Commit typed is = ap (λ found. runs (command_of statement.Commit (objects_of found))) (sym is)
  effect-meant (statement.Acquire keep fresh same) typed is = ap (λ found. runs (command_of (statement.Acquire keep fresh same) (objects_of found))) (sym is)
  effect-meant (statement.Resync l) typed is = ap (λ found. runs (command_of (statement.Resync l) (objects_of found))) (sym is)
  effect-meant (statement.Revert l) typed is = ap (λ found. runs (command_of (statement.Revert l) (objects_of found))) (sym is)
  effect-meant (statement.Add dimension l place) typed is = ap (λ found. on_view s (λ view. maintained_asked definitions (statement.Add dimension l place) view (objects_of found))) (sym is)
  effect-meant (statement.Delete dimension l) typed is = ap (λ found. on_view s (λ view. maintained_asked definitions (statement.Delete dimension l) view (objects_of found))) (sym is)
  effect-meant (statement.Move dimension l place) typed is = ap (λ found. on_view s (λ view. maintained_asked definitions (statement.Move dimension l place) view (objects_of found))) (sym is)
  effect-meant (statement.Rename dimension was text) typed is = ap (λ found. on_view s (λ view. maintained_asked definitions (statement.Rename dimension was text) view (objects_of found))) (sym is)
  effect-meant (statement.Report e) typed is = ap (λ found. runs (command_of (statement.Report e) (objects_of found))) (sym is)
  effect-meant (statement.Limit name how what) typed is = ap (λ found. runs (command_of (statement.Limit name how what) (objects_of found))) (sym is)
  effect-meant (statement.Aggregate variable map) typed is = ap (λ found. runs (command_of (statement.Aggregate variable map) (objects_of found))) (sym is)
  effect-meant (statement.Allocate source basis target map) typed is = ap (λ found. runs (command_of (statement.Allocate source basis target map) (objects_of found))) (sym is)
  effect-meant (statement.Call program arguments) typed is = ap (λ found. runs (command_of (statement.Call program arguments) (objects_of found))) (sym is)

  -- where nothing refuses it before
  pub effect_asked : {E : Type 0} (it : Statement) (typed : Typed) (refused : Option Refusal) (result : Result Asked E) → checked definitions it ≡ Ok typed → refused ≡ None
      → IfOk result (λ asked. asked ≡ effect definitions s it typed) → IfOk result (λ asked. asked ≡ asked_unless definitions s refused it)
  effect_asked it typed refused (Err e) is passed so = tt
  effect_asked it typed None (Ok asked) is passed so = so ∙ effect-meant it typed is
  effect_asked it typed (Some refusal) (Ok asked) is passed so = cc

-- where a statement has no run of its own
pub by_command : {E : Type 0} (definitions : List Def) (s : Known) (it : Statement) (typed : Typed) (objects : List (List ℕ × ℕ)) (result : Result Asked E) → evaluated definitions s it typed ≡ None
    → objects ≡ typed.objects → IfOk result (λ asked. asked ≡ runs (command_of it (map (λ (named : List ℕ × ℕ). named.1) objects))) → IfOk result (λ asked. asked ≡ effect definitions s it typed)
by_command definitions s it typed objects (Err e) is are told = tt
by_command definitions s it typed objects (Ok asked) is are told =
    told ∙ ap (λ (named : List (List ℕ × ℕ)). runs (command_of it (map (λ (one : List ℕ × ℕ). one.1) named))) are
    ∙ sym (ap (λ (own : Option Asked). elim own as (λ _. Asked) [ Some one ↦ one | None ↦ runs (command_of it (map (λ (named : List ℕ × ℕ). named.1) typed.objects)) ]) is)
