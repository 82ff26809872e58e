-- When two bodies are the same.
use Rattle.std.specs.Prelude.{◌≡◌, Bool, true}
use Rattle.std.proofs.Common.{◌∙◌, ap, sym}
use Rattle.aw_dim.specs.DimensionState.{DimensionState}
use Rattle.aw_dim.specs.SameValues.{same_values, same_values-Decides}
use Rattle.aw_var.specs.Variable.{Contents}
use Rattle.aw_var.specs.SameContents.{same_contents, same_contents-Decides}
use Rattle.aw_body.specs.declared.body.Body.{Body}
use Rattle.aw_body.specs.declared.body.Body.TheVariants.{Dim, Rel, Var}

dim-is : (one other : DimensionState) → Dim one ≡ Dim other → one ≡ other
dim-is one other e = cc

rel-is : (one other : Contents) → Rel one ≡ Rel other → one ≡ other
rel-is one other e = cc

var-is : (one other : Contents) → Var one ≡ Var other → one ≡ other
var-is one other e = cc

pub same-dim : (one other : Body) (a b : DimensionState) (result : Bool) → result ≡ same_values a b → one ≡ Dim a → other ≡ Dim b → (result ≡ true → one ≡ other) × (one ≡ other → result ≡ true)
same-dim one other a b result is one_is other_is =
    (λ e. one_is ∙ ap (λ (v : DimensionState). Dim v) ((same_values-Decides a b).0 (sym is ∙ e)) ∙ sym other_is, λ e. is ∙ (same_values-Decides a b).1 (dim-is a b (sym one_is ∙ e ∙ other_is)))

pub same-rel : (one other : Body) (a b : Contents) (result : Bool) → result ≡ same_contents a b → one ≡ Rel a → other ≡ Rel b → (result ≡ true → one ≡ other) × (one ≡ other → result ≡ true)
same-rel one other a b result is one_is other_is =
    (λ e. one_is ∙ ap (λ (v : Contents). Rel v) ((same_contents-Decides a b).0 (sym is ∙ e)) ∙ sym other_is, λ e. is ∙ (same_contents-Decides a b).1 (rel-is a b (sym one_is ∙ e ∙ other_is)))

pub same-var : (one other : Body) (a b : Contents) (result : Bool) → result ≡ same_contents a b → one ≡ Var a → other ≡ Var b → (result ≡ true → one ≡ other) × (one ≡ other → result ≡ true)
same-var one other a b result is one_is other_is =
    (λ e. one_is ∙ ap (λ (v : Contents). Var v) ((same_contents-Decides a b).0 (sym is ∙ e)) ∙ sym other_is, λ e. is ∙ (same_contents-Decides a b).1 (var-is a b (sym one_is ∙ e ∙ other_is)))
