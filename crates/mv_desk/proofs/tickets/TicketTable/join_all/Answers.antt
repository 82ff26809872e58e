use Rattle.mv_desk.proofs.Seating.{gathers_first, next_table, gathers_next}
use Rattle.mv_desk.proofs.tickets.TicketTable.join_all.Goals as goal

pub loop-pass-init : goal.loop-pass-init
loop-pass-init g c = gathers_first c.args.self.now.table.shared.table_id c.args.passes.items c.pop.new.self.items c.in-Some.last c.into_seat-whole.result c.requires.ready c.in-Some.ensures.items c.into_seat-whole.ensures.ready c.into_seat-whole.ensures.facts

pub join-requires-clause-table : goal.join-requires-clause-table
join-requires-clause-table g c = (
  c.loop-pass.invariant.table,
  next_table c.args.self.now.table.shared.table_id c.args.passes.items c.loop-pass.passes.items c.pop-in-loop-pass.new.self.items c.in-Some-pop.pass c.loop-pass.whole c.into_seat.result c.loop-pass.invariant c.in-Some-pop.ensures.items c.into_seat.ensures.facts,
)

pub loop-pass-preserved : goal.loop-pass-preserved
loop-pass-preserved g c = gathers_next c.args.self.now.table.shared.table_id c.args.passes.items c.loop-pass.passes.items c.pop-in-loop-pass.new.self.items c.in-Some-pop.pass c.into_seat.result c.loop-pass.whole c.join.new.seat c.loop-pass.invariant c.in-Some-pop.ensures.items c.into_seat.ensures.ready c.into_seat.ensures.facts c.join.ensures.0 c.join.ensures.1
