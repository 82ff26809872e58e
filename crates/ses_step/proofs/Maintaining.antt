-- The values that a session maintains are those of a dimension that it sees.
use Rattle.std.specs.Prelude.{ℕ, ◌≡◌, ◌≢◌, Bool, cond, List, Option, Some, None, IfSome, Result, Ok, Err, IfOk, IsErr}
use Rattle.std.specs.Option.{option_map}
use Rattle.std.proofs.Common.{◌∙◌, ap, refl, sym}
use Rattle.aw_dim.specs.DimensionState.{DimensionState, IsDimension}
use Rattle.aw_schema.specs.declared.definition.DefKind.{DefKind}
use Rattle.aw_schema.specs.declared.definition.DefKind.TheVariants.{Dimension, Relation, Valueset, Variable, Formula, Program, Aggmap}
use Rattle.aw_body.specs.declared.body.Body.{Body}
use Rattle.aw_body.specs.declared.body.Body.TheVariants.{Dim, Rel, Set, Var}
use Rattle.aw_body.specs.Bodies.{IsBodyOf}
use Rattle.dim_maintain.specs.declared.fault.MaintainFault.{MaintainFault}
use Rattle.dim_maintain.specs.declared.fault.MaintainFault.TheVariants.{NoValue, Repeated, Full, NoMemory}
use Rattle.ses_step.specs.declared.command.Asked.{Asked}
use Rattle.ses_step.specs.declared.command.Asked.TheVariants.{Refused}
use Rattle.mv_view.specs.Rules.{values_of, values_in}
use Rattle.mv_view.specs.ViewState.{ObjectView, ViewState, object_of, IsSeen, AreSeen}
use Rattle.ses_step.specs.Maintaining.{is_dimension, maintain_refusal, changed, values_held, dimension_in}
use Rattle.ses_step.proofs.callers.GuardedValues.{passes}

-- ---- the guard

pub guarded : {A : Type 0} (values : DimensionState) (runs refused : A) → IsDimension values → runs ≡ cond (is_dimension values) runs refused
guarded {A} values runs refused valid = ap (λ (b : Bool). cond b runs refused) (sym (passes values valid))

-- ---- a fault, which is a refusal unless memory was wanting

module _ {E : Type 0} (name : List ℕ) (object : ℕ) (cause : Option MaintainFault) (values : DimensionState) where
  refused-as : (fault : MaintainFault) (result : Result Asked E) → cause ≡ Some fault → IfOk result (λ asked. asked ≡ Refused (maintain_refusal name fault)) → IfOk result (λ asked. asked ≡ changed name object cause values)
  refused-as fault (Ok asked) is told = told ∙ sym (ap (λ (one : Option MaintainFault). changed name object one values) is)
  refused-as fault (Err e) is told = tt

  never-given : (result : Result Asked E) → IsErr result → IfOk result (λ asked. asked ≡ changed name object cause values)
  never-given (Ok asked) short = cc
  never-given (Err e) short = tt

  pub maintain_settled : (fault : MaintainFault) (result : Result Asked E) → (fault ≢ NoMemory → cause ≡ Some fault)
      → IfOk result (λ asked. asked ≡ Refused (maintain_refusal name fault)) → (fault ≡ NoMemory → IsErr result) → IfOk result (λ asked. asked ≡ changed name object cause values)
  maintain_settled (NoValue text) result is told short = refused-as (NoValue text) result (is (λ same. cc)) told
  maintain_settled (Repeated text) result is told short = refused-as (Repeated text) result (is (λ same. cc)) told
  maintain_settled Full result is told short = refused-as Full result (is (λ same. cc)) told
  maintain_settled NoMemory result is told short = never-given result (short refl)

-- ---- the body of a dimension has values

held-of : (kind : DefKind) (body : Body) → IsBodyOf kind body → values_held kind body ≡ values_of (Some body)
held-of Dimension (Dim values) is = refl
held-of Dimension (Rel contents) is = refl
held-of Dimension (Set slots) is = refl
held-of Dimension (Var contents) is = refl
held-of (Relation target base) (Dim values) is = absurd is
held-of (Relation target base) (Rel contents) is = refl
held-of (Relation target base) (Set slots) is = refl
held-of (Relation target base) (Var contents) is = refl
held-of (Valueset dimension) (Dim values) is = absurd is
held-of (Valueset dimension) (Rel contents) is = refl
held-of (Valueset dimension) (Set slots) is = refl
held-of (Valueset dimension) (Var contents) is = refl
held-of (Variable kind dimensions) (Dim values) is = absurd is
held-of (Variable kind dimensions) (Rel contents) is = refl
held-of (Variable kind dimensions) (Set slots) is = refl
held-of (Variable kind dimensions) (Var contents) is = refl
held-of (Formula text) (Dim values) is = absurd is
held-of (Formula text) (Rel contents) is = refl
held-of (Formula text) (Set slots) is = refl
held-of (Formula text) (Var contents) is = refl
held-of (Program text) (Dim values) is = absurd is
held-of (Program text) (Rel contents) is = refl
held-of (Program text) (Set slots) is = refl
held-of (Program text) (Var contents) is = refl
held-of (Aggmap text) (Dim values) is = absurd is
held-of (Aggmap text) (Rel contents) is = refl
held-of (Aggmap text) (Set slots) is = refl
held-of (Aggmap text) (Var contents) is = refl

pub values_seen : (view : ViewState) (object : ℕ) → AreSeen view.objects → values_in view object ≡ dimension_in view object
values_seen view object seen = by (object_of view object) (seen.each object)
  where
    by : (found : Option ObjectView) → IfSome found IsSeen
        → values_of (option_map (λ (one : ObjectView). one.private) found) ≡ elim found [ None ↦ None | Some one ↦ values_held one.kind one.private ]
    by None is = refl
    by (Some found) is = sym (held-of found.kind found.private is.private.form)
