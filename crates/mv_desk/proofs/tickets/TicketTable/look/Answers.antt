use Rattle.std.proofs.Common.{rules}
use Rattle.mv_desk.proofs.Steps.{looks}
use Rattle.mv_desk.proofs.tickets.TicketTable.look.Goals as goal

pub load-requires : goal.load-requires
load-requires g c = (c.requires.table, search rules, looks g.M.Sequential.step _ _ _ _ _ _ c.requires.waits)
