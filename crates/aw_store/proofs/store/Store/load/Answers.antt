use Rattle.aw_store.proofs.Answering.{answered}
use Rattle.aw_store.proofs.store.Store.load.Goals as goal

pub returns-clause-exactly : goal.returns-clause-exactly
returns-clause-exactly g c = answered _ (g.D.Disk.content c.args.disk) c.replayed.result c.replayed.ensures.holds c.replayed.ensures.refused
