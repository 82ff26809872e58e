use Rattle.std.proofs.Common.{◌∙◌, ap, length}
use Rattle.script_disk.proofs.Tables.{sized_table}
use Rattle.script_disk.proofs.dumping.write_dump.Goals as goal

pub write_objects-requires-clause-sized : goal.write_objects-requires-clause-sized
write_objects-requires-clause-sized g c =
    ap length c.in-Some.ensures.table ∙ sized_table c.args.store.now.table c.args.store.now.records c.recall_invariant.ensures.table.0 c.recall_invariant.ensures.table.1
