use Rattle.std.proofs.Common.{cond, Some, None}
use Rattle.std.specs.BTreeMap.{is_at}
use Rattle.aw_var.specs.CellMap.{by_slots}
use Rattle.agg_run.proofs.Rising.{on_level-added, on_ok}
use Rattle.agg_run.proofs.levels.put_on.Goals as goal

pub returns-clause-added : goal.returns-clause-added
returns-clause-added c = on_ok c.add.result
    (λ set. on_level-added c.args.operator c.args.levels.now.items c.args.level c.index_mut.result.now c.add.new.folds (λ key. cond (is_at (by_slots c.args.at) key) (Some c.args.fold) None) c.requires c.index_mut.ensures.value set)
    c.add.ensures.added
