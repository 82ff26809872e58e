use Rattle.std.proofs.Common.{rules}
use Rattle.mv_desk.proofs.Ends.{splits}
use Rattle.mv_desk.proofs.tickets.TicketTable.split.Goals as goal

pub split_seat-requires : goal.split_seat-requires
split_seat-requires g c = let t = c.requires.count in (c.requires.table, search rules, splits g.M.Sequential.step _ _ _ t.0 _ t.1 t.2)
