use Rattle.aw_journal.specs.Passed.{Passed-none}
use Rattle.aw_store.proofs.record_log.make_ready.Goals as goal

pub returns-then-is_err-clause-moments : goal.returns-then-is_err-clause-moments
returns-then-is_err-clause-moments g c = rw c.reserve.ensures.rest (Passed-none (λ image left. c.recall_invariant.ensures.left image left))
