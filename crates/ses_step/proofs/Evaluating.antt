-- What the arms of a statement's run answer is what it comes to.
use Rattle.std.specs.Prelude.{ℕ, ◌≡◌, List, map, Option, Some, None}
use Rattle.std.proofs.Common.{◌∙◌, ap, refl, sym}
use Rattle.aw_schema.specs.declared.definition.Def.{Def}
use Rattle.dml_tree.specs.declared.expr.Expr.{Expr}
use Rattle.dml_tree.specs.declared.expr.Target.{Target}
use Rattle.dml_tree.specs.declared.statement.Place.{Place}
use Rattle.dml_tree.specs.declared.statement.Statement.{Statement}
use Rattle.dml_tree.specs.declared.statement.Statement.TheVariants as statement
use Rattle.dml_kinds.specs.declared.checking.TypedExpr.{TypedExpr}
use Rattle.dml_types.specs.declared.checking.Typed.{Typed}
use Rattle.ses_step.specs.declared.command.Asked.{Asked}
use Rattle.ses_step.specs.declared.session.Known.{Known}
use Rattle.ses_step.specs.Maintaining.{maintained_asked}
use Rattle.ses_step.specs.Meant.{on_view}
use Rattle.ses_step.specs.inside.Effects.{first_shown, first_assigned, maintained_by, evaluated}

module _ (definitions : List Def) (s : Known) (it : Statement) (typed : Typed) (asked : Asked) where
  pub show_evaluated : (e : Expr) (expressions : List TypedExpr) → it ≡ statement.Show e → expressions ≡ typed.expressions
      → asked ≡ first_shown definitions s expressions → Some asked ≡ evaluated definitions s it typed
  show_evaluated e expressions is are told =
      ap Some (told ∙ ap (first_shown definitions s) are) ∙ sym (ap (λ (one : Statement). evaluated definitions s one typed) is)

  pub assign_evaluated : (to : Target) (e : Expr) (expressions : List TypedExpr) → it ≡ statement.Assign to e → expressions ≡ typed.expressions
      → asked ≡ first_assigned definitions s to expressions → Some asked ≡ evaluated definitions s it typed
  assign_evaluated to e expressions is are told =
      ap Some (told ∙ ap (first_assigned definitions s to) are) ∙ sym (ap (λ (one : Statement). evaluated definitions s one typed) is)

  pub maintain_evaluated : (form : Statement) (objects : List (List ℕ × ℕ)) → it ≡ form → evaluated definitions s form typed ≡ Some (maintained_by definitions s form typed)
      → objects ≡ typed.objects → asked ≡ on_view s (λ view. maintained_asked definitions it view (map (λ (named : List ℕ × ℕ). named.1) objects))
      → Some asked ≡ evaluated definitions s it typed
  maintain_evaluated form objects is has are told =
      ap Some (
      told ∙ ap (λ (all : List (List ℕ × ℕ)). on_view s (λ view. maintained_asked definitions it view (map (λ (named : List ℕ × ℕ). named.1) all))) are
      ∙ ap (λ (one : Statement). maintained_by definitions s one typed) is)
      ∙ sym has ∙ sym (ap (λ (one : Statement). evaluated definitions s one typed) is)

-- any other statement comes to nothing of its own
pub none_evaluated : (definitions : List Def) (s : Known) (typed : Typed) (it : Statement)
    → ((dimension : List ℕ) (names : List (List ℕ)) (place : Place) → it ≡ statement.Add dimension names place → ⊥)
    → ((dimension : List ℕ) (names : List (List ℕ)) → it ≡ statement.Delete dimension names → ⊥)
    → ((dimension : List ℕ) (names : List (List ℕ)) (place : Place) → it ≡ statement.Move dimension names place → ⊥)
    → ((dimension : List ℕ) (was : List ℕ) (text : List ℕ) → it ≡ statement.Rename dimension was text → ⊥)
    → ((to : Target) (e : Expr) → it ≡ statement.Assign to e → ⊥)
    → ((e : Expr) → it ≡ statement.Show e → ⊥)
    → evaluated definitions s it typed ≡ None
none_evaluated definitions s typed (statement.Attach mode) a d m r t h = refl
none_evaluated definitions s typed statement.Detach a d m r t h = refl
none_evaluated definitions s typed statement.Commit a d m r t h = refl
none_evaluated definitions s typed (statement.Acquire keep fresh same) a d m r t h = refl
none_evaluated definitions s typed (statement.Resync l) a d m r t h = refl
none_evaluated definitions s typed (statement.Release l) a d m r t h = refl
none_evaluated definitions s typed (statement.Revert l) a d m r t h = refl
none_evaluated definitions s typed (statement.Update l) a d m r t h = refl
none_evaluated definitions s typed (statement.Add dimension l place) a d m r t h = absurd (a dimension l place refl)
none_evaluated definitions s typed (statement.Delete dimension l) a d m r t h = absurd (d dimension l refl)
none_evaluated definitions s typed (statement.Move dimension l place) a d m r t h = absurd (m dimension l place refl)
none_evaluated definitions s typed (statement.Rename dimension was text) a d m r t h = absurd (r dimension was text refl)
none_evaluated definitions s typed (statement.Assign to e) a d m r t h = absurd (t to e refl)
none_evaluated definitions s typed (statement.Show e) a d m r t h = absurd (h e refl)
none_evaluated definitions s typed (statement.Report e) a d m r t h = refl
none_evaluated definitions s typed (statement.Limit name how what) a d m r t h = refl
none_evaluated definitions s typed (statement.Aggregate variable map) a d m r t h = refl
none_evaluated definitions s typed (statement.Allocate source basis target map) a d m r t h = refl
none_evaluated definitions s typed (statement.Call program arguments) a d m r t h = refl
