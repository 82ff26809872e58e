use Rattle.std.proofs.Common.{◌∙◌, ap, sym, Ok, None, Some}
use Rattle.ses_step.specs.Lines.{line_form}
use Rattle.ses_step.proofs.callers.SessionPlaces.{session_short, session_within}
use Rattle.script_world.specs.Meaning.{nothing, malformed}
use Rattle.script_meaning.specs.Language.{form_of}
use Rattle.script_play.specs.inside.StoreWorlds.{refusing_response}
use Rattle.script_play.proofs.Lines.{form_as, blank_answers, bad_answers}
use Rattle.script_play.proofs.Told.{told_none, told_same}
use Rattle.script_play.proofs.world.StoreWorld+Store+D.first_line.Goals as goal

pub returns-in-Blank-clause-responds : goal.returns-in-Blank-clause-responds
returns-in-Blank-clause-responds g c =
    form_as g.D.Disk.faults g.D.Disk.clock g.D.Disk.crash c.args.line.now (form_of c.args.line.now (line_form c.args.line.now)) nothing (Ok None) c.args.self.now c.args.self.now (ap (form_of c.args.line.now) (sym c.sort_line.ensures ∙ c.in-Blank.is)) (blank_answers g.D.Disk.faults g.D.Disk.clock g.D.Disk.crash c.args.line.now c.args.self.now)

pub returns-in-Bad-clause-responds : goal.returns-in-Bad-clause-responds
returns-in-Bad-clause-responds g c =
    form_as g.D.Disk.faults g.D.Disk.clock g.D.Disk.crash c.args.line.now (form_of c.args.line.now (line_form c.args.line.now)) (malformed c.in-Bad.refusal) (Ok (Some c.refusing.result)) c.args.self.now c.args.self.now (ap (form_of c.args.line.now) (sym c.sort_line.ensures ∙ c.in-Bad.is))
    (bad_answers g.D.Disk.faults g.D.Disk.clock g.D.Disk.crash c.args.line.now c.in-Bad.refusal c.refusing.result c.args.self.now c.requires.whole (c.refusing.ensures ∙ ap (λ prefix. refusing_response prefix c.in-Bad.refusal) c.no_session.ensures))

pub under_name-requires-clause-short : goal.under_name-requires-clause-short
under_name-requires-clause-short g c = session_short c.args.line.now c.in-Session.name c.in-Session.from (sym c.sort_line.ensures ∙ c.in-Session.is)

pub under_name-requires-clause-within : goal.under_name-requires-clause-within
under_name-requires-clause-within g c = session_within c.args.line.now c.in-Session.name c.in-Session.from (sym c.sort_line.ensures ∙ c.in-Session.is)

pub returns-in-Blank-clause-told : goal.returns-in-Blank-clause-told
returns-in-Blank-clause-told g c = told_none

pub returns-in-Bad-clause-told : goal.returns-in-Bad-clause-told
returns-in-Bad-clause-told g c = told_none

pub returns-in-Ok-clause-told : goal.returns-in-Ok-clause-told
returns-in-Ok-clause-told g c = told_same _ c.args.self.now.store _ c.definition_line.ensures.store

pub returns-in-Err-clause-told : goal.returns-in-Err-clause-told
returns-in-Err-clause-told g c = told_same _ c.args.self.now.store _ c.definition_line.ensures.store
