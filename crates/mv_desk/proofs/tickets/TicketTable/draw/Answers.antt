use Rattle.std.proofs.Common.{rules}
use Rattle.mv_desk.proofs.Steps.{draws}
use Rattle.mv_desk.proofs.tickets.TicketTable.draw.Goals as goal

pub fetch_add-requires : goal.fetch_add-requires
fetch_add-requires g c = (c.requires.table, search rules, draws g.M.Sequential.step _ _ _ _ _ _ c.requires.idle.0 c.requires.idle.1 c.requires.idle.3)
