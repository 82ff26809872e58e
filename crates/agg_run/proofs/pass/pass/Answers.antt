use Rattle.std.proofs.Common.{◌≡◌, ◌≤◌, [], ◌++◌, length, refl, sym, ap, subst, ◌∙◌, arith}
use Rattle.std.specs.Option.{option_to_list}
use Rattle.agg_run.specs.inside.Levels.{Levels, held_at}
use Rattle.agg_run.specs.inside.Passes.{IsCarried}
use Rattle.agg_run.proofs.Heights.{same_size}
use Rattle.agg_run.proofs.Rising.{no_levels}
use Rattle.agg_run.proofs.Passing.{carried_first, carried_more, carried_last}
use Rattle.agg_run.proofs.pass.pass.Goals as goal

pub leaf_levels-requires-clause-most : goal.leaf_levels-requires-clause-most
leaf_levels-requires-clause-most g c = c.len-most.ensures.value ∙ sym (same_size c.args.line.now.tree.now c.args.line.now.dimension.now.entries c.requires.values)

pub loop-level-init : goal.loop-level-init
loop-level-init g c =
    carried_first c.args.kind c.args.line.now.operator c.args.line.now.tree.now c.args.line.now.place (held_at c.args.numbers.now.entries) c.height-height.ensures.valid c.height-height.result c.height-height.ensures.deepest
    c.in_ok-levels.levels.items c.new-after.result.entries c.in_ok-levels.ensures.as_many c.new-after.ensures.empty c.in_ok-levels.ensures.cells

pub loop-level-preserved : goal.loop-level-preserved
loop-level-preserved g c =
    carried_more c.args.kind c.args.line.now.operator c.args.line.now.tree.now c.args.line.now.place (held_at c.args.numbers.now.entries) c.height-height.ensures.valid
    c.loop-level.levels.items c.pop.new.self.items c.climb_onto.new.above.items c.in-Some.level c.loop-level.after.entries c.finish.new.numbers.entries
    (c.pop.ensures.items ∙ ap (λ o. c.pop.new.self.items ++ option_to_list o) c.in-Some.is) c.loop-level.invariant
    c.in_ok-climb_onto.ensures.as_many c.in_ok-climb_onto.ensures.others c.in_ok-climb_onto.ensures.last c.in_ok-finish.ensures.finished

pub returns-clause-after : goal.returns-clause-after
returns-clause-after g c =
    let cases = rw c.in_default.is at c.pop.ensures.cases in
    let none : c.loop-level.levels.items ≡ [] = no_levels c.loop-level.levels.items (omega (arith, cases.0)) in
    let size : length c.args.line.now.tree.now ≡ length c.args.line.now.dimension.now.entries = same_size c.args.line.now.tree.now c.args.line.now.dimension.now.entries c.requires.values in
    let few : length c.args.line.now.tree.now ≤ 65536 = omega (arith, size, c.len-most.ensures.value, c.len-most.ensures.most) in
    carried_last c.args.kind c.args.line.now.operator c.args.line.now.tree.now c.args.line.now.place (held_at c.args.numbers.now.entries) c.height-height.ensures.valid c.loop-level.after.entries (length c.args.line.now.tree.now)
    (subst (λ (l : Levels). IsCarried c.args.kind c.args.line.now.operator c.args.line.now.tree.now c.args.line.now.place (held_at c.args.numbers.now.entries) l c.loop-level.after.entries) none c.loop-level.invariant) refl few

pub returns-clause-few : goal.returns-clause-few
returns-clause-few g c =
    let size : length c.args.line.now.tree.now ≡ length c.args.line.now.dimension.now.entries = same_size c.args.line.now.tree.now c.args.line.now.dimension.now.entries c.requires.values in
    omega (arith, size, c.len-most.ensures.value, c.len-most.ensures.most)
