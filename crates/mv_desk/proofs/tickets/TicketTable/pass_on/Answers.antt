use Rattle.std.proofs.Common.{rules}
use Rattle.mv_desk.proofs.Steps.{passes}
use Rattle.mv_desk.proofs.tickets.TicketTable.pass_on.Goals as goal

pub fetch_add-requires : goal.fetch_add-requires
fetch_add-requires g c = let t = c.requires.acted in (c.requires.table, search rules, passes g.M.Sequential.step _ _ _ _ _ _ _ _ t.0 t.1 t.2 c.requires.turn.0 t.4 t.5 c.requires.said t.3 c.requires.turn.1 t.6 t.7)
