use Rattle.aw_store.proofs.callers.Commits.{lent-definitions}
use Rattle.aw_store.proofs.store.Store.catalogue.Goals as goal

pub returns-clause-table : goal.returns-clause-table
returns-clause-table g c =
    let store = c.self.inside in
    rw (← c.self.view_is) (lent-definitions store.log.records store.catalogue store.shared c.self.invariant c.as_ref.result c.as_ref.ensures.value)
