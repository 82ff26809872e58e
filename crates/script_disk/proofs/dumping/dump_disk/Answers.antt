use Rattle.std.proofs.Common.{ℕ, List, subst, sym}
use Rattle.aw_io.specs.Known.{Grows, GrowsByFront}
use Rattle.aw_store.specs.StoredRecords.{LeftRecords}
use Rattle.script_meaning.specs.Dump.{dumped_table}
use Rattle.script_disk.specs.Dumped.{IsDumpOf, EndsDump}
use Rattle.script_disk.proofs.WholeDumps.{is_dump, written, broken}
use Rattle.script_disk.proofs.dumping.dump_disk.Goals.{in-Ok-write_dump, in-Err-write_dump}
use Rattle.script_disk.proofs.dumping.dump_disk.Goals as goal

pub returns-after-write_dump-clause-ends : goal.returns-after-write_dump-clause-ends
returns-after-write_dump-clause-ends g c =
    let store = c.in-Ok.store in
    let content = g.D.Disk.content c.args.disk in
    let disk = c.into_disk.result in
    let images : List ℕ → Type 0 = g.D.Disk.crash disk (g.D.Disk.clock disk) in
    let left : (image : List ℕ) → images image → LeftRecords store.records store.doubt image = subst (λ d. (image : List ℕ) → g.D.Disk.crash d (g.D.Disk.clock d) image → LeftRecords store.records store.doubt image) (sym c.into_disk.ensures) c.recall_invariant.ensures.images in
    let text = dumped_table store.table in
    let dump : IsDumpOf content images text = is_dump content images store.records store.doubt store.table c.recall_invariant.ensures.spellings c.recall_invariant.ensures.replayable c.in-Ok.ensures.holds c.in-Ok.ensures.opened.0 left c.in-Ok.ensures.opened.1 in
    let before = g.K.Sink.written c.args.devices.out.now in
    let now = g.K.Sink.written c.write_dump.new.out in
    elim c.match-write_dump.branch [
      | in-Ok-write_dump w ↦
          subst (λ status. EndsDump status content images before now) (sym w.status-is)
          (written content images before now text dump (subst (λ out. Grows (g.K.Sink.written out) now text) c.in-Ok.ensures.untouched w.in-Ok-write_dump.ensures.ok))
      | in-Err-write_dump w ↦
          subst (λ status. EndsDump status content images before now) (sym w.status-is)
          (broken content images before now text dump (subst (λ out. GrowsByFront (g.K.Sink.written out) now text) c.in-Ok.ensures.untouched w.in-Err-write_dump.ensures.err))
    ]
