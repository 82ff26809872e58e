use Rattle.std.proofs.Common.{◌≡◌, ◌∷◌, [], ℕ, List, sym, subst, ◌∙◌, arith}
use Rattle.aw_disk.specs.Images.{TornFrom}
use Rattle.aw_journal.specs.Journal.{HalfOpen, Stands, framed}
use Rattle.aw_journal.specs.Passed.{Passed-wider, Passed-none}
use Rattle.aw_journal.proofs.Bytes.{repaired}
use Rattle.aw_journal.proofs.callers.Frames.{HalfOpen-left}
use Rattle.aw_journal.proofs.JournalImages.{Stands-left, on_ok, opens}
use Rattle.aw_journal.proofs.Steps.{gate-inside, gate-torn, gate-closed, landed}
use Rattle.aw_journal.specs.declared.doubt.Doubt.TheVariants.{Opening}
use Rattle.aw_journal.proofs.journal.Journal.repair.Goals as goal

pub returns-then-ne-clause-moments : goal.returns-then-ne-clause-moments
returns-then-ne-clause-moments g c =
    let j = c.self.inside in
    rw (← c.self.view_is) (Passed-none (λ image left. Stands-left j.doubt j.settled.payloads j.frame.items j.gate image (c.self.invariant image left)))

pub put-requires : goal.put-requires
put-requires g c =
    let j = c.self.inside in
    let is : j.doubt ≡ Opening = opens j.doubt c.if-ne.ensures in
    let payload = framed j.frame.items in
    let images = λ (image : List ℕ). g.D.Disk.crash j.disk (g.D.Disk.clock j.disk) image in
    let half : (image : List ℕ) → images image → HalfOpen j.settled.payloads payload j.gate image = λ image left.
    subst (λ doubt. Stands doubt j.settled.payloads j.frame.items j.gate image) is (c.self.invariant image left) in
    gate-inside j.settled.payloads payload j.gate (g.D.Disk.content j.disk) images (g.met.D.Disk.is_an_image j.disk) half

pub invariant_of-self-then-is_err : goal.invariant_of-self-then-is_err
invariant_of-self-then-is_err g c =
    let j = c.self.inside in
    let is : j.doubt ≡ Opening = opens j.doubt c.if-ne.ensures in
    let payload = framed j.frame.items in
    let images = λ (image : List ℕ). g.D.Disk.crash j.disk (g.D.Disk.clock j.disk) image in
    let half : (image : List ℕ) → images image → HalfOpen j.settled.payloads payload j.gate image = λ image left.
    subst (λ doubt. Stands doubt j.settled.payloads j.frame.items j.gate image) is (c.self.invariant image left) in
    let torn : (image : List ℕ) → TornFrom j.gate 1 images image → HalfOpen j.settled.payloads payload j.gate image = gate-torn j.settled.payloads payload j.gate (g.D.Disk.content j.disk) images (g.met.D.Disk.is_an_image j.disk) half in
    λ image left. subst (λ doubt. Stands doubt j.settled.payloads j.frame.items j.gate image) (sym is)
    (torn image (c.put.ensures.moments.only (g.D.Disk.clock c.put.new.disk) image c.put.ensures.moments.later (omega arith) left))

pub returns-then-is_err-clause-moments : goal.returns-then-is_err-clause-moments
returns-then-is_err-clause-moments g c =
    let j = c.self.inside in
    let is : j.doubt ≡ Opening = opens j.doubt c.if-ne.ensures in
    let payload = framed j.frame.items in
    let images = λ (image : List ℕ). g.D.Disk.crash j.disk (g.D.Disk.clock j.disk) image in
    let half : (image : List ℕ) → images image → HalfOpen j.settled.payloads payload j.gate image = λ image left.
    subst (λ doubt. Stands doubt j.settled.payloads j.frame.items j.gate image) is (c.self.invariant image left) in
    let torn : (image : List ℕ) → TornFrom j.gate 1 images image → HalfOpen j.settled.payloads payload j.gate image = gate-torn j.settled.payloads payload j.gate (g.D.Disk.content j.disk) images (g.met.D.Disk.is_an_image j.disk) half in
    rw (← c.self.view_is) (rw is (Passed-wider {during = TornFrom j.gate 1 images} c.put.ensures.moments (λ image left. HalfOpen-left j.settled.payloads payload j.gate image (torn image left))))

pub invariant_of-self-2 : goal.invariant_of-self-2
invariant_of-self-2 g c =
    let j = c.self.inside in
    let is : j.doubt ≡ Opening = opens j.doubt c.if-ne.ensures in
    let payload = framed j.frame.items in
    let images = λ (image : List ℕ). g.D.Disk.crash j.disk (g.D.Disk.clock j.disk) image in
    let half : (image : List ℕ) → images image → HalfOpen j.settled.payloads payload j.gate image = λ image left.
    subst (λ doubt. Stands doubt j.settled.payloads j.frame.items j.gate image) is (c.self.invariant image left) in
    λ image left. gate-closed j.settled.payloads payload j.gate (g.D.Disk.content j.disk) images (g.met.D.Disk.is_an_image j.disk) half image
    (landed j.gate (0 ∷ []) (g.D.Disk.content j.disk) (g.D.Disk.content c.put.new.disk) image
    (on_ok c.put.result (sym c.is_err.ensures.value ∙ c.if-is_err.false) c.put.ensures.written)
    (on_ok c.put.result (sym c.is_err.ensures.value ∙ c.if-is_err.false) c.put.ensures.durable image left))

pub returns-clause-moments : goal.returns-clause-moments
returns-clause-moments g c =
    let j = c.self.inside in
    let is : j.doubt ≡ Opening = opens j.doubt c.if-ne.ensures in
    let payload = framed j.frame.items in
    let images = λ (image : List ℕ). g.D.Disk.crash j.disk (g.D.Disk.clock j.disk) image in
    let half : (image : List ℕ) → images image → HalfOpen j.settled.payloads payload j.gate image = λ image left.
    subst (λ doubt. Stands doubt j.settled.payloads j.frame.items j.gate image) is (c.self.invariant image left) in
    let torn : (image : List ℕ) → TornFrom j.gate 1 images image → HalfOpen j.settled.payloads payload j.gate image = gate-torn j.settled.payloads payload j.gate (g.D.Disk.content j.disk) images (g.met.D.Disk.is_an_image j.disk) half in
    rw (← c.self.view_is) (rw is (Passed-wider {during = TornFrom j.gate 1 images} c.put.ensures.moments (λ image left. HalfOpen-left j.settled.payloads payload j.gate image (torn image left))))

pub returns-clause-repaired : goal.returns-clause-repaired
returns-clause-repaired g c = rw (← c.self.view_is) (λ image left. (invariant_of-self-2 g c image left).holds)

pub returns-clause-bytes : goal.returns-clause-bytes
returns-clause-bytes g c =
    let j = c.self.inside in
    let is : j.doubt ≡ Opening = opens j.doubt c.if-ne.ensures in
    let payload = framed j.frame.items in
    let images = λ (image : List ℕ). g.D.Disk.crash j.disk (g.D.Disk.clock j.disk) image in
    let half : (image : List ℕ) → images image → HalfOpen j.settled.payloads payload j.gate image = λ image left.
    subst (λ doubt. Stands doubt j.settled.payloads j.frame.items j.gate image) is (c.self.invariant image left) in
    rw (← c.self.view_is) (λ opening. repaired j.settled.payloads payload j.gate (g.D.Disk.content j.disk) (g.D.Disk.content c.put.new.disk)
    (λ bytes told. half bytes (g.met.D.Disk.is_an_image j.disk bytes told)) (on_ok c.put.result (sym c.is_err.ensures.value ∙ c.if-is_err.false) c.put.ensures.written))
