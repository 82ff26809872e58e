use Rattle.std.proofs.Common.{◌∙◌, ap, sym, Some, None}
use Rattle.std.specs.Option.{option_map}
use Rattle.script_world.specs.Worlds.{no_session}
use Rattle.script_play.specs.inside.StoreWorlds.{refusing_response}
use Rattle.script_play.proofs.Lines.{open_answers}
use Rattle.script_play.proofs.world.StoreWorld+Store+D.define_open.Goals as goal

pub returns-in-Ok-Some-clause-ok : goal.returns-in-Ok-Some-clause-ok
returns-in-Ok-Some-clause-ok g c =
    let refused = c.refusing.ensures ∙ ap (λ prefix. refusing_response prefix c.in-Ok-Some.refusal) c.no_session.ensures in
    open_answers g.D.Disk.faults g.D.Disk.clock g.D.Disk.crash c.replace-lines.result c.replace-lines.new.dest c.in-Ok-Some.field-0 (Some c.refusing.result) c.args.self.now c.define.new.self c.replace-lines.ensures.value (c.replace-lines.ensures.after ∙ c.new.ensures)
    (ap Some refused ∙ sym (ap (option_map (refusing_response no_session)) c.in-Ok-Some.field-0-is)) c.in-Ok-Some.ensures.ok

pub returns-in-Ok-None-clause-ok : goal.returns-in-Ok-None-clause-ok
returns-in-Ok-None-clause-ok g c =
    open_answers g.D.Disk.faults g.D.Disk.clock g.D.Disk.crash c.replace-lines.result c.replace-lines.new.dest c.in-Ok-None.field-0 None c.args.self.now c.define.new.self c.replace-lines.ensures.value (c.replace-lines.ensures.after ∙ c.new.ensures)
    (sym (ap (option_map (refusing_response no_session)) c.in-Ok-None.field-0-is)) c.in-Ok-None.ensures.ok
