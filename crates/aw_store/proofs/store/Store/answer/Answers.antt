use Rattle.std.proofs.Common.{inl, refl}
use Rattle.aw_journal.specs.Passed.{Passed-none}
use Rattle.aw_store.proofs.callers.Commits.{StandFor-answered}
use Rattle.aw_store.proofs.Steps.{acts-shared, never-fault}
use Rattle.aw_store.proofs.Writing.{state_of}
use Rattle.aw_store.proofs.store.Store.answer.Goals as goal

pub invariant_of-self : goal.invariant_of-self
invariant_of-self g c =
    let store = c.self.inside in
    StandFor-answered store.log.records store.catalogue store.shared c.self.invariant c.args.entry.now c.act.result c.act.new.self c.in-None.ensures c.act.ensures.table

pub returns-in-None-clause-acts : goal.returns-in-None-clause-acts
returns-in-None-clause-acts g c =
    let store = c.self.inside in
    rw (← c.self.view_is) (acts-shared c.args.entry.now (state_of store.log store.shared) (state_of store.log c.act.new.self) c.act.result c.in-None.ensures c.act.ensures.table refl)

pub returns-in-None-clause-moments : goal.returns-in-None-clause-moments
returns-in-None-clause-moments g c =
    let leaves = rw (← c.self.view_is) at c.requires in
    rw (← c.self.view_is) (Passed-none (λ image left. inl (leaves image left)))

pub returns-in-None-clause-cause : goal.returns-in-None-clause-cause
returns-in-None-clause-cause g c = λ is.
    let store = c.self.inside in
    let acted = acts-shared c.args.entry.now (state_of store.log store.shared) (state_of store.log c.act.new.self) c.act.result c.in-None.ensures c.act.ensures.table refl in
    absurd (never-fault c.args.entry.now (state_of store.log store.shared) (state_of store.log c.act.new.self) c.act.result c.in-None.ensures acted is)
