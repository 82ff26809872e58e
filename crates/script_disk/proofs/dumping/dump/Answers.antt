use Rattle.std.proofs.Common.{rules}
use Rattle.script_disk.proofs.callers.Completing.{dump_completes, dump_explains}
use Rattle.script_disk.proofs.dumping.dump.Goals as goal

pub returns-clause-completes : goal.returns-clause-completes
returns-clause-completes g c = λ formatted told disk sink.
    let ended = c.replace_with-status.ensures in
    dump_completes (g.D.Disk.crash c.args.disk.now (g.D.Disk.clock c.args.disk.now)) formatted c.replace_with-status.result.0 (g.D.Disk.content c.args.disk.now) _ _ _
    (g.met.D.Disk.is_an_image c.args.disk.now) told ended.1.0 (λ four. sink (search rules)) (λ five. disk (ended.1.1.1.1.1.1.0 five))

pub returns-clause-explains : goal.returns-clause-explains
returns-clause-explains g c =
    dump_explains c.replace_with-status.result.0 (g.D.Disk.content c.args.disk.now) _ _ _ c.replace_with-status.ensures.1.0
