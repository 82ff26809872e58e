use Rattle.aw_store.proofs.Taking.{accepted-ok, refused-err}
use Rattle.aw_store.proofs.replay.accept.Goals as goal

pub returns-in-Ok-clause-accepted : goal.returns-in-Ok-clause-accepted
returns-in-Ok-clause-accepted c = accepted-ok c.args.catalogue.now c.args.def c.in-Ok.field-0 c.in-Ok.ensures.answer

pub returns-then-is_refusal-clause-accepted : goal.returns-then-is_refusal-clause-accepted
returns-then-is_refusal-clause-accepted c =
    refused-err c.args.catalogue.now c.args.def c.in-Err.fault (c.is_refusal.ensures.0 c.if-is_refusal.true) c.in-Err.ensures.answer
