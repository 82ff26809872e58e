use Rattle.aw_journal.proofs.JournalImages.{Stands-left}
use Rattle.aw_journal.proofs.journal.Journal.recall_invariant.Goals as goal

pub returns-clause-left : goal.returns-clause-left
returns-clause-left g c = rw (← c.self.view_is) (λ image left. Stands-left c.self.inside.doubt c.self.inside.settled.payloads c.self.inside.frame.items c.self.inside.gate image (c.self.invariant image left))
