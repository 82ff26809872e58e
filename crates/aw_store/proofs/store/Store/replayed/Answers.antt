use Rattle.std.proofs.Common.{◌≡◌, ◌∙◌, ap, subst, sym, [], arith, length}
use Rattle.std.proofs.lemmas.List.{length-map}
use Rattle.aw_journal.specs.Format.{placed}
use Rattle.aw_store.specs.inside.PayloadRecords.{AreSpellings}
use Rattle.aw_store.specs.inside.ReplaySteps.{AreReplayed, Stops, bytes_of, last_bytes}
use Rattle.aw_store.proofs.Loading.{placed-bytes_of, refused-stopped, held-replayed, opened-replayed}
use Rattle.aw_store.proofs.callers.Spellings.{IsLast-loaded}
use Rattle.aw_store.proofs.store.Store.replayed.Goals as goal

pub replay-requires : goal.replay-requires
replay-requires g c =
    let places : c.as_slice.result.now ≡ placed 8 c.in-Ok.loaded.0.settled = c.as_slice.ensures ∙ c.in-Ok.ensures.payloads in
    places ∙ ap (placed 8) (sym (placed-bytes_of c.as_slice.result.now c.in-Ok.loaded.0.settled places))

pub new-requires-clause-spellings : goal.new-requires-clause-spellings
new-requires-clause-spellings g c =
    let journal = c.in-Ok.loaded.0 in
    let replayed = c.in-Ok-replay.replayed in
    let same = placed-bytes_of c.as_slice.result.now journal.settled (c.as_slice.ensures ∙ c.in-Ok.ensures.payloads) in
    let are : AreReplayed journal.settled replayed.catalogue replayed.shared = subst (λ settled. AreReplayed settled replayed.catalogue replayed.shared) same c.in-Ok-replay.ensures.ok in
    subst (AreSpellings journal.settled) (sym c.in-Ok.ensures.certain.0) are.spellings

pub new-requires-clause-last : goal.new-requires-clause-last
new-requires-clause-last g c =
    let journal = c.in-Ok.loaded.0 in
    let payloads = c.in-Ok.loaded.1 in
    let replayed = c.in-Ok-replay.replayed in
    let same = placed-bytes_of c.as_slice.result.now journal.settled (c.as_slice.ensures ∙ c.in-Ok.ensures.payloads) in
    let are : AreReplayed journal.settled replayed.catalogue replayed.shared = subst (λ settled. AreReplayed settled replayed.catalogue replayed.shared) same c.in-Ok-replay.ensures.ok in
    let all = placed-bytes_of payloads journal.settled c.in-Ok.ensures.payloads in
    IsLast-loaded journal.settled c.len-number.result c.last_of.result are.spellings (omega (arith, c.len-number.ensures, ap length all, length-map payloads bytes_of)) (omega (arith, c.len-number.type_inv)) (c.last_of.ensures ∙ ap last_bytes all)

pub invariant_of-result : goal.invariant_of-result
invariant_of-result g c =
    let journal = c.in-Ok.loaded.0 in
    let replayed = c.in-Ok-replay.replayed in
    let same = placed-bytes_of c.as_slice.result.now journal.settled (c.as_slice.ensures ∙ c.in-Ok.ensures.payloads) in
    let are : AreReplayed journal.settled replayed.catalogue replayed.shared = subst (λ settled. AreReplayed settled replayed.catalogue replayed.shared) same c.in-Ok-replay.ensures.ok in
    rw c.new.ensures (record { replayable = are.leave.replayable; definitions_are = are.leave.definitions_are; owners = []; table_is = are.leave.table_is })

pub returns-in-Ok-replay-clause-holds : goal.returns-in-Ok-replay-clause-holds
returns-in-Ok-replay-clause-holds g c =
    let journal = c.in-Ok.loaded.0 in
    let replayed = c.in-Ok-replay.replayed in
    let same = placed-bytes_of c.as_slice.result.now journal.settled (c.as_slice.ensures ∙ c.in-Ok.ensures.payloads) in
    let are : AreReplayed journal.settled replayed.catalogue replayed.shared = subst (λ settled. AreReplayed settled replayed.catalogue replayed.shared) same c.in-Ok-replay.ensures.ok in
    rw c.new.ensures (held-replayed (g.D.Disk.content c.args.disk) journal.settled c.in-Ok.ensures.holds are.spellings)

pub returns-in-Ok-replay-clause-opened : goal.returns-in-Ok-replay-clause-opened
returns-in-Ok-replay-clause-opened g c =
    let journal = c.in-Ok.loaded.0 in
    let replayed = c.in-Ok-replay.replayed in
    let same = placed-bytes_of c.as_slice.result.now journal.settled (c.as_slice.ensures ∙ c.in-Ok.ensures.payloads) in
    let are : AreReplayed journal.settled replayed.catalogue replayed.shared = subst (λ settled. AreReplayed settled replayed.catalogue replayed.shared) same c.in-Ok-replay.ensures.ok in
    opened-replayed _ journal.settled journal.doubt c.new.result replayed.shared c.new.ensures c.in-Ok.ensures.certain.0 are.leave.table_is

pub returns-in-Err-replay-clause-refused : goal.returns-in-Err-replay-clause-refused
returns-in-Err-replay-clause-refused g c =
    let journal = c.in-Ok.loaded.0 in
    let same = placed-bytes_of c.as_slice.result.now journal.settled (c.as_slice.ensures ∙ c.in-Ok.ensures.payloads) in
    let stops : Stops c.in-Err-replay.fault journal.settled = subst (Stops c.in-Err-replay.fault) same c.in-Err-replay.ensures.err in
    refused-stopped c.in-Err-replay.fault (g.D.Disk.content c.args.disk) journal.settled c.in-Ok.ensures.holds stops
