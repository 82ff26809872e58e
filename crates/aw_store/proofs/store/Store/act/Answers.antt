use Rattle.aw_store.proofs.Steps.{legal, cut_off}
use Rattle.aw_store.proofs.store.Store.act.Goals as goal

pub returns-clause-step : goal.returns-clause-step
returns-clause-step g c = λ w numbers firsts stands.
    legal w numbers firsts c.args.entry.now c.args.self.now c.answer-reply.new.self stands c.answer-reply.result c.answer-reply.ensures.acts

pub returns-clause-too_large : goal.returns-clause-too_large
returns-clause-too_large g c = λ granted long.
    cut_off c.args.entry.now c.args.self.now c.answer-reply.new.self c.answer-reply.result c.answer-reply.ensures.acts granted long
