use Rattle.aw_store.proofs.callers.Spellings.{LeftRecords-left}
use Rattle.aw_store.proofs.record_log.RecordLog.recall_invariant.Goals as goal

pub returns-clause-spellings : goal.returns-clause-spellings
returns-clause-spellings g c = rw (← c.self.view_is) c.self.invariant.0.spellings

pub returns-clause-images : goal.returns-clause-images
returns-clause-images g c =
    let journal = c.self.inside.journal in
    rw (← c.self.view_is) (λ image left. LeftRecords-left journal.settled journal.doubt c.self.invariant.0 image (c.recall_invariant.ensures.left image left))
