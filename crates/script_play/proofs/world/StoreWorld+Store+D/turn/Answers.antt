use Rattle.std.proofs.Common.{◌∙◌, ap, List, ℕ}
use Rattle.ses_step.specs.Sessions.{name_at}
use Rattle.script_meaning.specs.Language.{written}
use Rattle.script_play.specs.inside.StoreWorlds.{definitions_in}
use Rattle.script_play.proofs.Lines.{see-held, turn_some, turn_wants}
use Rattle.script_play.proofs.world.StoreWorld+Store+D.turn.Goals as goal

pub take_turn_at-requires-clause-sees : goal.take_turn_at-requires-clause-sees
take_turn_at-requires-clause-sees g c = see-held (definitions_in c.args.self.now.store) c.args.self.now.sessions c.args.who c.args.who c.requires.seen

pub returns-in-Ok-clause-ok : goal.returns-in-Ok-clause-ok
returns-in-Ok-clause-ok g c =
    turn_some g.D.Disk.faults g.D.Disk.clock g.D.Disk.crash c.args.who (written c.args.line.now c.args.from) c.in-Ok.answer _ c.args.self.now _
    (c.name_at-prefix.ensures ∙ ap (λ (names : List (List ℕ)). name_at names c.args.who) c.as_slice.ensures) c.requires.closed c.in-Ok.ensures.ok

pub returns-in-Err-clause-err : goal.returns-in-Err-clause-err
returns-in-Err-clause-err g c =
    turn_wants g.D.Disk.faults g.D.Disk.clock g.D.Disk.crash c.args.who (written c.args.line.now c.args.from) c.args.self.now _ c.requires.closed c.in-Err.ensures.err
