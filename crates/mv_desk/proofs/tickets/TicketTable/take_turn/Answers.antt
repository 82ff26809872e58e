use Rattle.mv_desk.proofs.Acts.{grows, legal, own}
use Rattle.mv_desk.proofs.tickets.TicketTable.take_turn.Goals as goal

pub returns-clause-seen : goal.returns-clause-seen
returns-clause-seen g c = grows g.M.Sequential.step c.args.self.now.table.shared.key.opening.value c.args.entry.now c.work-reply.result c.draw-place.result c.args.seat.now.me c.draw-place.new.seat.me c.wait.new.seat.me c.work-reply.new.seat.me c.pass_on.new.seat.me (c.requires.ready, c.requires.opened, c.draw-place.ensures.drawn, c.wait.ensures.turn, c.work-reply.ensures.view, c.work-reply.ensures.step, c.pass_on.ensures.passed)

pub returns-clause-legal : goal.returns-clause-legal
returns-clause-legal g c = legal g.M.Sequential.step c.args.self.now.table.shared.key.opening.value c.args.entry.now c.work-reply.result c.draw-place.result c.args.seat.now.me c.draw-place.new.seat.me c.wait.new.seat.me c.work-reply.new.seat.me c.pass_on.new.seat.me (c.requires.ready, c.requires.opened, c.draw-place.ensures.drawn, c.wait.ensures.turn, c.work-reply.ensures.view, c.work-reply.ensures.step, c.pass_on.ensures.passed)

pub returns-clause-own : goal.returns-clause-own
returns-clause-own g c = own g.M.Sequential.step c.args.self.now.table.shared.key.opening.value c.args.entry.now c.work-reply.result c.draw-place.result c.args.seat.now.me c.draw-place.new.seat.me c.wait.new.seat.me c.work-reply.new.seat.me c.pass_on.new.seat.me (c.requires.ready, c.requires.opened, c.draw-place.ensures.drawn, c.wait.ensures.turn, c.work-reply.ensures.view, c.work-reply.ensures.step, c.pass_on.ensures.passed)
