use Rattle.std.proofs.Common.{rules, ◌≡◌, ◌-◌, length, slice_set, arith}
use Rattle.aw_rel.specs.Hierarchy.{children_in}
use Rattle.agg_run.specs.Aggregates.{slot_at}
use Rattle.agg_run.specs.inside.Folds.{summed}
use Rattle.agg_run.specs.inside.Levels.{fold_at}
use Rattle.agg_run.proofs.Rising.{on_ok, others_kept, last_added}
use Rattle.agg_run.proofs.sharing.climb_onto.Goals as goal

pub returns-clause-others : goal.returns-clause-others
returns-clause-others g c =
    let size : c.len-left.result ≡ length c.args.above.now.items = search rules in
    let some = c.if-left-eq0.false in
    on_ok c.climb.result (λ _ depth key less. others_kept c.args.above.now.items (c.len-left.result - 1) c.climb.new.above depth key (omega (arith, size, some)) (omega (arith, size, some)) less) c.climb.ensures

pub returns-clause-last : goal.returns-clause-last
returns-clause-last g c =
    let size : c.len-left.result ≡ length c.args.above.now.items = search rules in
    let some = c.if-left-eq0.false in
    on_ok c.climb.result (λ set depth key here within.
    last_added c.args.operator c.args.above.now.items (c.len-left.result - 1) c.index_mut.result.now c.climb.new.above (summed c.args.operator (λ child. fold_at c.args.level.now.entries (slice_set key c.args.place child)) (children_in c.args.tree.now (slot_at key c.args.place))) depth key
    (omega (arith, size, some)) (omega (arith, size, some)) here c.index_mut.ensures.value (set key within)) c.climb.ensures
