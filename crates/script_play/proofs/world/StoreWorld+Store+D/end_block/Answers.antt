use Rattle.std.proofs.Common.{refl}
use Rattle.std.proofs.lemmas.Bool.{false≢true}
use Rattle.script_play.proofs.Lines.{block_responds, block_some}
use Rattle.script_play.proofs.world.StoreWorld+Store+D.end_block.Goals as goal

pub returns-then-is_empty-clause-responds : goal.returns-then-is_empty-clause-responds
returns-then-is_empty-clause-responds g c = block_responds g.D.Disk.faults g.D.Disk.clock g.D.Disk.crash c.args.self.now (c.if-is_empty.ensures.0 refl)

pub returns-in-Ok-clause-responds : goal.returns-in-Ok-clause-responds
returns-in-Ok-clause-responds g c =
    block_some g.D.Disk.faults g.D.Disk.clock g.D.Disk.crash c.in-Ok.response c.args.self.now c.define_open.new.self (λ is. false≢true (c.if-is_empty.ensures.1 is)) c.in-Ok.ensures.ok
