use Rattle.std.proofs.Common.{◌∙◌, sym}
use Rattle.script_play.proofs.Drafting.{accepted_so, refused_so}
use Rattle.script_play.proofs.draft.draft_definition.Goals as goal

pub returns-in-Ok-clause-ok : goal.returns-in-Ok-clause-ok
returns-in-Ok-clause-ok c =
    accepted_so c.args.drafted.now c.args.definition.now c.in-Some-2.kind c.in-Ok.field-0 c.check.new.self (sym c.defined_as.ensures ∙ c.in_default.is) (sym c.in-Some-2.is ∙ c.in_ok-kind.ensures) c.in-Ok.ensures.answer c.in-Ok.ensures.after

pub returns-in-Ok-told-clause-ok : goal.returns-in-Ok-told-clause-ok
returns-in-Ok-told-clause-ok c =
    refused_so c.args.drafted.now c.args.definition.now c.in-Some-2.kind c.in-Err.fault c.in-Ok-told.refusal c.check.new.self (sym c.defined_as.ensures ∙ c.in_default.is) (sym c.in-Some-2.is ∙ c.in_ok-kind.ensures) c.in-Err.ensures.answer c.in-Err.ensures.after c.in-Ok-told.ensures
