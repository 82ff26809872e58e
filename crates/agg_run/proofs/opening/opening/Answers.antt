use Rattle.std.proofs.Common.{rules, ◌≡◌, ℤ, ℕ, List, Some, None, FitsSigned, cond, sym, ap, ◌∙◌}
use Rattle.std.specs.Int.{w128}
use Rattle.std.specs.BTreeMap.{is_at}
use Rattle.std.proofs.lemmas.Int.{to_z-of_z}
use Rattle.aw_var.specs.CellMap.{by_slots}
use Rattle.agg_run.specs.Numbers.{number_in}
use Rattle.agg_run.specs.Aggregates.{is_combination}
use Rattle.agg_run.specs.Calls.{values_of}
use Rattle.agg_run.specs.inside.Levels.{held_at}
use Rattle.agg_run.proofs.Gathering.{sorted_rest, taken_step, given_some, given_none, of_cells_more}
use Rattle.agg_run.proofs.opening.opening.Goals as goal

pub loop-at-preserved-in-Continue-1 : goal.loop-at-preserved-in-Continue-1
loop-at-preserved-in-Continue-1 c =
    let fits : FitsSigned w128 c.in-Some-taken.number = search rules in
    let set : (key : List ℕ) → held_at c.put.new.numbers.entries key ≡ cond (is_at (by_slots c.in-Some.at) key) (Some c.in-Some-taken.number) (held_at c.loop-at.numbers.entries key) =
    λ key. c.in_ok-put.ensures key ∙ ap (λ (n : ℤ). cond (is_at (by_slots c.in-Some.at) key) (Some n) (held_at c.loop-at.numbers.entries key)) (to_z-of_z w128 c.in-Some-taken.number fits) in
    let taken : cond (is_combination (values_of c.args.dimensions.now) c.in-Some.at) (number_in c.in-Some.cell) None ≡ Some c.in-Some-taken.number = sym c.taken.ensures.value ∙ c.in-Some-taken.is in (
      sorted_rest c.loop-at.at-iterator c.next.new.self c.in-Some.at c.in-Some.cell c.in-Some.ensures.steps c.loop-at.invariant.0,
      λ key. taken_step (values_of c.args.dimensions.now) c.in-Some.at c.in-Some.cell c.loop-at.at-iterator c.next.new.self (held_at c.loop-at.numbers.entries key) (held_at c.put.new.numbers.entries key) key _ c.in-Some.ensures.steps c.loop-at.invariant.0
          (set key ∙ given_some c.in-Some.at key _ c.in-Some-taken.number (held_at c.loop-at.numbers.entries key) taken) (c.loop-at.invariant.1 key),
      of_cells_more (held_at c.loop-at.numbers.entries) (held_at c.put.new.numbers.entries) c.in-Some.at c.in-Some-taken.number c.in-Some-taken.ensures.small set c.loop-at.invariant.2,
    )

pub loop-at-preserved : goal.loop-at-preserved
loop-at-preserved c = (
  sorted_rest c.loop-at.at-iterator c.next.new.self c.in-Some.at c.in-Some.cell c.in-Some.ensures.steps c.loop-at.invariant.0,
  λ key. taken_step (values_of c.args.dimensions.now) c.in-Some.at c.in-Some.cell c.loop-at.at-iterator c.next.new.self (held_at c.loop-at.numbers.entries key) (held_at c.loop-at.numbers.entries key) key _ c.in-Some.ensures.steps c.loop-at.invariant.0
      (given_none c.in-Some.at key _ (held_at c.loop-at.numbers.entries key) (sym c.taken.ensures.value ∙ c.in_default.is)) (c.loop-at.invariant.1 key),
  c.loop-at.invariant.2,
)
