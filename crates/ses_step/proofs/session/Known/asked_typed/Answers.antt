use Rattle.std.proofs.Common.{◌∙◌, sym}
use Rattle.ses_step.proofs.EffectsMeant.{effect_asked}
use Rattle.ses_step.proofs.session.Known.asked_typed.Goals as goal

pub returns-in-None : goal.returns-in-None
returns-in-None c =
    effect_asked c.args.catalogue.now c.args.self.now c.requires.sees c.args.statement.now c.args.typed.now _ c.effect.result c.requires.checked (sym c.checked_refusal.ensures ∙ c.in-None.is) c.effect.ensures
