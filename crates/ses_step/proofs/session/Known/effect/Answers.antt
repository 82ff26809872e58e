use Rattle.std.proofs.Common.{◌∙◌, sym}
use Rattle.ses_step.proofs.EffectsMeant.{by_command}
use Rattle.ses_step.proofs.session.Known.effect.Goals as goal

pub returns-in-None : goal.returns-in-None
returns-in-None c =
    by_command c.args.catalogue.now c.args.self.now c.args.statement.now c.args.typed.now c.as_slice.result.now c.shares.result (sym c.in_ok-asked.ensures ∙ c.in-None.is) c.as_slice.ensures c.shares.ensures
