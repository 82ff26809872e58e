-- Cells that are added to those above them.
use Rattle.std.proofs.Common.{◌≡◌, ℕ, cond, true, false, List, ◌∷◌, slice_set, Option, Some, None, refl, sym, ap, ◌∙◌}
use Rattle.std.specs.BTreeMap.{is_at}
use Rattle.std.proofs.lemmas.Map.Lookups.{exact_bytes}
use Rattle.aw_cell.specs.declared.operator.Operator.{Operator}
use Rattle.aw_rel.specs.Hierarchy.{Tree, parent_in}
use Rattle.aw_var.specs.CellMap.{by_slots}
use Rattle.aw_var.proofs.callers.FiniteMaps.{equal_of}
use Rattle.agg_run.specs.Aggregates.{slot_at}
use Rattle.agg_run.specs.inside.Folds.{with, summed}
use Rattle.agg_run.specs.inside.Levels.{Folds, fold_at, lifted_to, raised_key, given_at}
use Rattle.agg_run.specs.declared.folding.Fold.{Fold}
use Rattle.agg_run.proofs.Joining.{with-none, with-assoc}

-- keys that compare equal are
pub same_key : (one other : List ℕ) → is_at (by_slots one) other ≡ true → one ≡ other
same_key one other is = exact_bytes one other (equal_of (by_slots one other) is)

pub added : (o : Operator) (olds news : Folds) (at : List ℕ) (fold sum : Fold) → Some sum ≡ with o (fold_at olds at) (Some fold) →
    ((key : List ℕ) → fold_at news key ≡ cond (is_at (by_slots at) key) (Some sum) (fold_at olds key)) →
    (key : List ℕ) → fold_at news key ≡ with o (fold_at olds key) (cond (is_at (by_slots at) key) (Some fold) None)
added o olds news at fold sum is set key =
    set key ∙ elim (is_at (by_slots at) key) as (λ b. is_at (by_slots at) key ≡ b → cond b (Some sum) (fold_at olds key) ≡ with o (fold_at olds key) (cond b (Some fold) None)) [
      | true ↦ λ t. is ∙ ap (λ k. with o (fold_at olds k) (Some fold)) (same_key at key t)
      | false ↦ λ _. sym (with-none o (fold_at olds key))
    ] refl

-- one more cell has gone up
pub climbed : (o : Operator) (tree : Tree) (place : ℕ) (key : List ℕ) (olds mids left rest : Folds) (at above : List ℕ) (fold : Fold) (parent : ℕ) (all : Option Fold) →
    left ≡ (at, fold) ∷ rest → parent_in tree (slot_at at place) ≡ Some parent → above ≡ slice_set at place parent →
    fold_at mids key ≡ with o (fold_at olds key) (cond (is_at (by_slots above) key) (Some fold) None) →
    with o (fold_at olds key) (summed o (lifted_to tree place key) left) ≡ all →
    with o (fold_at mids key) (summed o (lifted_to tree place key) rest) ≡ all
climbed o tree place key olds mids left rest at above fold parent all first has is now before =
    let gives : lifted_to tree place key (at, fold) ≡ cond (is_at (by_slots above) key) (Some fold) None =
    ap (λ p. given_at key fold (raised_key place at p)) has ∙ ap (λ k. cond (is_at (by_slots k) key) (Some fold) None) (sym is) in
    ap (λ f. with o f (summed o (lifted_to tree place key) rest)) (now ∙ ap (with o (fold_at olds key)) (sym gives))
    ∙ with-assoc o (fold_at olds key) (lifted_to tree place key (at, fold)) (summed o (lifted_to tree place key) rest)
    ∙ ap (λ l. with o (fold_at olds key) (summed o (lifted_to tree place key) l)) (sym first)
    ∙ before
