use Rattle.std.proofs.Common.{rules, ◌≡◌, ℤ, ℕ, List, cond, Some, FitsSigned, refl, ◌∙◌, sym, ap, subst}
use Rattle.std.specs.Int.{w128}
use Rattle.std.specs.List.{IsDistinct}
use Rattle.std.specs.Map.{keys_of}
use Rattle.std.specs.BTreeMap.{is_at}
use Rattle.std.specs.Option.{option_map}
use Rattle.std.specs.Ordering.{eq_by_cmp}
use Rattle.std.proofs.lemmas.Int.{to_z-of_z}
use Rattle.std.proofs.lemmas.Map.Keys.{IsDistinct-from_sorted}
use Rattle.aw_var.specs.CellMap.{by_slots}
use Rattle.agg_run.specs.inside.Levels.{Folds, fold_at, held_at, or_else, ended}
use Rattle.agg_run.proofs.Rising.{finished_step}
use Rattle.agg_run.proofs.levels.finish.Goals as goal

pub loop-at-init : goal.loop-at-init
loop-at-init c =
    let all = c.into_iter-at-iterator.ensures.into_iter_gives ∙ c.iter-at-items.ensures.rest in
    subst (λ (l : Folds). IsDistinct (eq_by_cmp by_slots) (keys_of l) × ((key : List ℕ) → or_else (option_map (ended c.args.kind c.args.operator c.args.tree.now c.args.place key) (fold_at l key)) (held_at c.args.numbers.now.entries key) ≡ or_else (option_map (ended c.args.kind c.args.operator c.args.tree.now c.args.place key) (fold_at c.args.level.now.entries key)) (held_at c.args.numbers.now.entries key))) (sym all)
    (IsDistinct-from_sorted by_slots (keys_of c.args.level.now.entries) c.iter-at-items.ensures.ordered, λ key. refl)

pub loop-at-preserved : goal.loop-at-preserved
loop-at-preserved c =
    let fits : FitsSigned w128 c.ended.result = search rules in
    finished_step c.args.kind c.args.operator c.args.tree.now c.args.place c.in-Some.at.now c.in-Some.fold.now c.loop-at.at-iterator c.next.new.self c.loop-at.numbers.entries c.put.new.numbers.entries c.ended.result _
    (search rules) (search rules)
    (λ key. c.in_ok-put.ensures key ∙ ap (λ (n : ℤ). cond (is_at (by_slots c.in-Some.at.now) key) (Some n) (held_at c.loop-at.numbers.entries key)) (to_z-of_z w128 c.ended.result fits))
    c.loop-at.invariant
