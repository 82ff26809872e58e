use Rattle.std.proofs.Common.{◌≡◌, Some, IfSome, sym, subst, ◌∙◌}
use Rattle.std.proofs.lemmas.Option.{IfSome_then}
use Rattle.aw_journal.specs.inside.FramesRead.{HasRead}
use Rattle.aw_journal.specs.declared.gate.Gate.TheVariants.{Closed}
use Rattle.aw_journal.proofs.Answering.{found, explained}
use Rattle.aw_journal.proofs.Loading.{read_all}
use Rattle.aw_journal.proofs.journal.Journal.load.Goals as goal

pub invariant_of-journal : goal.invariant_of-journal
invariant_of-journal g c =
    let found = c.in-Ok.found in
    let progress = c.in-Ok.ensures.ok in
    λ image left.
    let told : g.D.Disk.content c.args.disk ≡ Some image = sym c.in-Ok.ensures.stays ∙ c.in-Ok.ensures.durable image left in
    let read : HasRead found.settled.payloads Closed image = subst (λ content. IfSome content (HasRead found.settled.payloads Closed)) told progress.told in
    record { holds = read_all found.settled.payloads image progress.short read; place = progress.place; within = progress.bound }

pub returns-in-Ok-clause-exactly : goal.returns-in-Ok-clause-exactly
returns-in-Ok-clause-exactly g c =
    let payloads = c.in-Ok.found.settled.payloads in
    IfSome_then (g.D.Disk.content c.args.disk) c.in-Ok.ensures.ok.told (λ image read. found _ image payloads (read_all payloads image c.in-Ok.ensures.ok.short read))

pub returns-in-Err-clause-exactly : goal.returns-in-Err-clause-exactly
returns-in-Err-clause-exactly g c = explained _ c.in-Err.fault (c.read.new.disk) (g.D.Disk.content c.args.disk) _ _ c.in-Err.ensures.err
