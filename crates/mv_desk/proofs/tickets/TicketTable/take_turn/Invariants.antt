use Rattle.std.specs.Prelude.{Some}
use Rattle.mv_desk.specs.History.{call_of}
use Rattle.mv_desk.specs.inside.Seats.{caller}
use Rattle.mv_desk.proofs.tickets.TicketTable.take_turn.Given as goal

abbrev pub ghosts-pass_on : goal.ghosts-pass_on
ghosts-pass_on g a = record { item = Some (call_of (caller a.seat.now.me.0).number a._entry.now a._reply.now) }
