use Rattle.mv_desk.proofs.Seating.{Gathered}
use Rattle.mv_desk.proofs.tickets.TicketTable.join_all.Given as goal

abbrev pub invariant-loop-pass : goal.invariant-loop-pass
invariant-loop-pass g l = Gathered l.self.table.shared.table_id l.fn.passes.items l.passes.items l.whole

abbrev pub decreases-loop-pass : goal.decreases-loop-pass
decreases-loop-pass g l = l.passes.len
