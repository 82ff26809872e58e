use Rattle.std.proofs.Common.{rules}
use Rattle.mv_desk.proofs.Ends.{joins}
use Rattle.mv_desk.proofs.tickets.TicketTable.join.Goals as goal

pub join_seat-requires : goal.join_seat-requires
join_seat-requires g c = let idle = c.requires.idle in (c.requires.table.0, search rules, search rules, search rules, joins g.M.Sequential.step _ _ _ _ _ _ idle.0 idle.1.0 idle.1.1)
