-- What is gathered op by op.
use Rattle.std.proofs.Common.{◌≡◌, ◌∙◌, ℕ, List, [], ◌∷◌, ◌++◌, reverse, refl, sym, ap}
use Rattle.std.specs.Bool.{Decides}
use Rattle.std.proofs.lemmas.Bool.{false≢true}
use Rattle.std.proofs.lemmas.List.{reverse-reverse}
use Rattle.aw_cell.specs.declared.cell.Kind.{Kind}
use Rattle.aw_cell.specs.declared.cell.Kind.TheVariants.{Num, Int, Text, Bool as Truth, Slot}
use Rattle.aw_cell.specs.contracts.cell.KindPartialEq.TheImpl as kind_eq
use Rattle.dml_exec.specs.Free.{with_one, with_all}

pub all_append : (free dimensions more : List ℕ) → with_all free (dimensions ++ more) ≡ with_all (with_all free dimensions) more
all_append free [] more = refl
all_append free (d ∷ dimensions) more = all_append (with_one free d) dimensions more

-- kinds are compared as what they are
pub kind-Decides : (a b : Kind) → Decides ((kind_eq.eq-value).it a b) (a ≡ b)
kind-Decides Num Num = (λ e. refl, λ e. refl)
kind-Decides Int Int = (λ e. refl, λ e. refl)
kind-Decides Text Text = (λ e. refl, λ e. refl)
kind-Decides Truth Truth = (λ e. refl, λ e. refl)
kind-Decides Slot Slot = (λ e. refl, λ e. refl)
kind-Decides _ _ = (λ e. absurd (false≢true e), λ e. cc)

pub reversed-same : {A : Type 0} (xs ys : List A) → reverse xs ≡ reverse ys → xs ≡ ys
reversed-same xs ys e = sym (reverse-reverse xs) ∙ ap reverse e ∙ reverse-reverse ys
