use Rattle.std.proofs.Common.{◌+◌, ◌≤◌, ◌-◌}
use Rattle.mv_desk.proofs.Seating.{Seated}
use Rattle.mv_desk.proofs.tickets.TicketTable.seat_all.Given as goal

abbrev pub invariant-loop-others : goal.invariant-loop-others
invariant-loop-others g l = Seated record { opening = l.self.table.shared.key.opening.value; callers = l.callers; table = l.self.table.shared.table_id } l.others l.first l.passes.items × (l.others + 1 ≤ l.callers) × (l.callers ≤ l.passes.cap)

abbrev pub decreases-loop-others : goal.decreases-loop-others
decreases-loop-others g l = l.callers - l.others
