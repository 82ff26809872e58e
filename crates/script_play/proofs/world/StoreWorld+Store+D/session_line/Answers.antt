use Rattle.std.proofs.Common.{◌∙◌, ap, List, ℕ}
use Rattle.ses_step.specs.Sessions.{name_at}
use Rattle.script_meaning.specs.Language.{written}
use Rattle.script_play.specs.inside.StoreWorlds.{refusing_response}
use Rattle.script_play.proofs.Lines.{placed_seen, session_full, session_some, session_wants}
use Rattle.script_play.proofs.Told.{told_same}
use Rattle.script_play.proofs.world.StoreWorld+Store+D.session_line.Goals as goal

pub turn-requires-clause-seen : goal.turn-requires-clause-seen
turn-requires-clause-seen g c = placed_seen g.D.Disk.faults g.D.Disk.clock g.D.Disk.crash c.args.name c.args.self.now c.add_session.new.self c.in-Ok.ensures.added c.requires.seen

pub returns-then-who-ge-MOST_SESSIONS-clause-ok : goal.returns-then-who-ge-MOST_SESSIONS-clause-ok
returns-then-who-ge-MOST_SESSIONS-clause-ok g c =
    session_full g.D.Disk.faults g.D.Disk.clock g.D.Disk.crash c.args.name (written c.args.line.now c.args.from) c.name_at-prefix.result c.refusing.result c.session_place-who.result c.args.self.now c.add_session.new.self c.session_place-who.ensures c.if-who-ge-MOST_SESSIONS.true c.requires.closed c.in-Ok.ensures.added
    (c.name_at-prefix.ensures ∙ ap (λ (names : List (List ℕ)). name_at names c.session_place-who.result) c.as_slice.ensures)
    (c.refusing.ensures ∙ ap (refusing_response c.name_at-prefix.result) c.too_many_sessions.ensures)

pub returns-in-Ok-turn-clause-ok : goal.returns-in-Ok-turn-clause-ok
returns-in-Ok-turn-clause-ok g c =
    session_some g.D.Disk.faults g.D.Disk.clock g.D.Disk.crash c.args.name (written c.args.line.now c.args.from) _ c.session_place-who.result c.args.self.now c.add_session.new.self _ c.session_place-who.ensures c.if-who-ge-MOST_SESSIONS.false c.requires.closed c.in-Ok.ensures.added c.in-Ok-turn.ensures.ok

pub returns-in-Err-turn-clause-err : goal.returns-in-Err-turn-clause-err
returns-in-Err-turn-clause-err g c =
    session_wants g.D.Disk.faults g.D.Disk.clock g.D.Disk.crash c.args.name (written c.args.line.now c.args.from) c.session_place-who.result c.args.self.now c.add_session.new.self _ c.session_place-who.ensures c.if-who-ge-MOST_SESSIONS.false c.in-Ok.ensures.added c.in-Err-turn.ensures.err

pub returns-in-Err-clause-told : goal.returns-in-Err-clause-told
returns-in-Err-clause-told g c = told_same _ c.args.self.now.store _ c.add_session.ensures.store

pub returns-then-who-ge-MOST_SESSIONS-clause-told : goal.returns-then-who-ge-MOST_SESSIONS-clause-told
returns-then-who-ge-MOST_SESSIONS-clause-told g c = told_same _ c.args.self.now.store _ c.add_session.ensures.store
