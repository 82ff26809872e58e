use Rattle.std.proofs.Common.{◌≡◌, ◌++◌, ◌∷◌, [], ℕ, ◌+◌, ◌<◌, ◌^◌, List, length, Some, None, inl, sym, subst, refl, ◌∙◌, arith}
use Rattle.aw_disk.specs.Calls.{Written}
use Rattle.aw_disk.specs.Images.{TornFrom}
use Rattle.aw_journal.specs.Format.{size_bytes}
use Rattle.aw_journal.specs.Journal.{AtRest, HalfOpen, Stands, doubtful}
use Rattle.aw_journal.specs.Passed.{Passed-wider, Passed-then}
use Rattle.aw_journal.specs.declared.journal.Journal.TheInside.{Inside}
use Rattle.aw_journal.proofs.Bytes.{appended}
use Rattle.aw_journal.proofs.callers.Frames.{HalfOpen-left, framed-frame}
use Rattle.aw_journal.proofs.JournalImages.{at_rest, not_in_doubt, on_ok}
use Rattle.aw_journal.proofs.Steps.{behind-inside, behind-torn, behind-written, gate-inside, gate-torn, gate-opened, landed}
use Rattle.aw_journal.proofs.journal.Journal.append.Given.{Over}
use Rattle.aw_journal.proofs.journal.Journal.append.Goals as goal

-- the images of a disk now
abbrev images : (g : Over) → g.row.D.Denot → List ℕ → Type 0
images g disk image = g.D.Disk.crash disk (g.D.Disk.clock disk) image

-- the journal before the append, and the place behind its gate
module _ (g : Over) (j : Inside g.row.D.Denot) (certain : doubtful j.doubt j.frame.items ≡ None)
    (stands : (image : List ℕ) → images g j.disk image → Stands j.doubt j.settled.payloads j.frame.items j.gate image)
    (place : ℕ) (behind : j.gate < 2 ^ 62 → place ≡ j.gate + 1) where
  rests : (image : List ℕ) → images g j.disk image → AtRest j.settled.payloads j.gate image
  rests image left = at_rest j.doubt j.settled.payloads j.frame.items j.gate image certain (stands image left)

  torn : (count : ℕ) (image : List ℕ) → TornFrom place count (images g j.disk) image → AtRest j.settled.payloads j.gate image
  torn = behind-torn j.settled.payloads j.gate place (g.D.Disk.content j.disk) (images g j.disk) (g.met.D.Disk.is_an_image j.disk) rests behind

  -- the disk with the frame on it
  module _ (staged : g.row.D.Denot) (payload frame : List ℕ) (is : frame ≡ size_bytes (length payload) ++ payload ++ 0 ∷ []) (short : length payload < 2 ^ 32)
      (written : Written place frame (g.D.Disk.content j.disk) (g.D.Disk.content staged))
      (durable : (image : List ℕ) → images g staged image → g.D.Disk.content staged ≡ Some image) where
    half : (image : List ℕ) → images g staged image → HalfOpen j.settled.payloads payload j.gate image
    half image left =
        behind-written j.settled.payloads j.gate place (g.D.Disk.content j.disk) (images g j.disk) (g.met.D.Disk.is_an_image j.disk) rests behind payload frame image is short
        (landed place frame (g.D.Disk.content j.disk) (g.D.Disk.content staged) image written (durable image left))

    torn_gate : (image : List ℕ) → TornFrom j.gate 1 (images g staged) image → HalfOpen j.settled.payloads payload j.gate image
    torn_gate = gate-torn j.settled.payloads payload j.gate (g.D.Disk.content staged) (images g staged) (g.met.D.Disk.is_an_image staged) half

pub put-requires : goal.put-requires
put-requires g c =
    let j = c.self.inside in
    let certain : doubtful j.doubt j.frame.items ≡ None = rw (← c.self.view_is) at c.requires.certain in
    let behind : j.gate < 2 ^ 62 → c.saturating_add-behind.result ≡ j.gate + 1 = λ within. omega (arith, within, c.saturating_add-behind.ensures) in
    behind-inside j.settled.payloads j.gate c.saturating_add-behind.result (g.D.Disk.content j.disk) (images g j.disk) (g.met.D.Disk.is_an_image j.disk) (rests g j certain c.self.invariant c.saturating_add-behind.result behind) behind

pub invariant_of-self : goal.invariant_of-self
invariant_of-self g c =
    let j = c.self.inside in
    let certain : doubtful j.doubt j.frame.items ≡ None = rw (← c.self.view_is) at c.requires.certain in
    let behind : j.gate < 2 ^ 62 → c.saturating_add-behind.result ≡ j.gate + 1 = λ within. omega (arith, within, c.saturating_add-behind.ensures) in
    λ image left. torn g j certain c.self.invariant c.saturating_add-behind.result behind (length c.as_slice.result.now) image (c.put.ensures.moments.only (g.D.Disk.clock c.put.new.disk) image c.put.ensures.moments.later (omega arith) left)

pub returns-then-is_err-clause-moments : goal.returns-then-is_err-clause-moments
returns-then-is_err-clause-moments g c =
    let j = c.self.inside in
    let certain : doubtful j.doubt j.frame.items ≡ None = rw (← c.self.view_is) at c.requires.certain in
    let behind : j.gate < 2 ^ 62 → c.saturating_add-behind.result ≡ j.gate + 1 = λ within. omega (arith, within, c.saturating_add-behind.ensures) in
    rw (← c.self.view_is) (Passed-wider {during = TornFrom c.saturating_add-behind.result (length c.as_slice.result.now) (images g j.disk)} c.put.ensures.moments
    (λ image left. inl (torn g j certain c.self.invariant c.saturating_add-behind.result behind (length c.as_slice.result.now) image left).holds))

pub returns-then-is_err-clause-err : goal.returns-then-is_err-clause-err
returns-then-is_err-clause-err g c =
    rw (← c.self.view_is) (rw (framed-frame c.args.payload.now c.fill_frame.new.frame.items c.fill_frame.ensures.bytes) refl)

pub put-requires-2 : goal.put-requires-2
put-requires-2 g c =
    let j = c.self.inside in
    let certain : doubtful j.doubt j.frame.items ≡ None = rw (← c.self.view_is) at c.requires.certain in
    let behind : j.gate < 2 ^ 62 → c.saturating_add-behind.result ≡ j.gate + 1 = λ within. omega (arith, within, c.saturating_add-behind.ensures) in
    let payload = c.args.payload.now in
    let fine = sym c.is_err.ensures.value ∙ c.if-is_err.false in
    let short : length payload < 2 ^ 32 = omega (arith, c.requires.short) in
    gate-inside j.settled.payloads payload j.gate (g.D.Disk.content c.put.new.disk) (images g c.put.new.disk) (g.met.D.Disk.is_an_image c.put.new.disk) (half g j certain c.self.invariant c.saturating_add-behind.result behind c.put.new.disk payload c.as_slice.result.now
    (c.as_slice.ensures.value ∙ c.fill_frame.ensures.bytes) short (on_ok c.put.result fine c.put.ensures.written) (on_ok c.put.result fine c.put.ensures.durable))

pub invariant_of-self-then-is_err-2 : goal.invariant_of-self-then-is_err-2
invariant_of-self-then-is_err-2 g c =
    let j = c.self.inside in
    let certain : doubtful j.doubt j.frame.items ≡ None = rw (← c.self.view_is) at c.requires.certain in
    let behind : j.gate < 2 ^ 62 → c.saturating_add-behind.result ≡ j.gate + 1 = λ within. omega (arith, within, c.saturating_add-behind.ensures) in
    let payload = c.args.payload.now in
    let fine = sym c.is_err.ensures.value ∙ c.if-is_err.false in
    let short : length payload < 2 ^ 32 = omega (arith, c.requires.short) in
    let opening = torn_gate g j certain c.self.invariant c.saturating_add-behind.result behind c.put.new.disk payload c.as_slice.result.now
    (c.as_slice.ensures.value ∙ c.fill_frame.ensures.bytes) short (on_ok c.put.result fine c.put.ensures.written) (on_ok c.put.result fine c.put.ensures.durable) in
    rw (framed-frame payload c.fill_frame.new.frame.items c.fill_frame.ensures.bytes)
    (λ image left. opening image (c.put-2.ensures.moments.only (g.D.Disk.clock c.put-2.new.disk) image c.put-2.ensures.moments.later (omega arith) left))

pub returns-then-is_err-2-clause-moments : goal.returns-then-is_err-2-clause-moments
returns-then-is_err-2-clause-moments g c =
    let j = c.self.inside in
    let certain : doubtful j.doubt j.frame.items ≡ None = rw (← c.self.view_is) at c.requires.certain in
    let behind : j.gate < 2 ^ 62 → c.saturating_add-behind.result ≡ j.gate + 1 = λ within. omega (arith, within, c.saturating_add-behind.ensures) in
    let payload = c.args.payload.now in
    let fine = sym c.is_err.ensures.value ∙ c.if-is_err.false in
    let short : length payload < 2 ^ 32 = omega (arith, c.requires.short) in
    let opening = torn_gate g j certain c.self.invariant c.saturating_add-behind.result behind c.put.new.disk payload c.as_slice.result.now
    (c.as_slice.ensures.value ∙ c.fill_frame.ensures.bytes) short (on_ok c.put.result fine c.put.ensures.written) (on_ok c.put.result fine c.put.ensures.durable) in
    rw (← c.self.view_is) (Passed-then {during = TornFrom c.saturating_add-behind.result (length c.as_slice.result.now) (images g j.disk)} {later = TornFrom j.gate 1 (images g c.put.new.disk)} c.put.ensures.moments c.put-2.ensures.moments
    (λ image left. inl (torn g j certain c.self.invariant c.saturating_add-behind.result behind (length c.as_slice.result.now) image left).holds)
    (λ image left. HalfOpen-left j.settled.payloads payload j.gate image (opening image left)))

pub returns-then-is_err-2-clause-err : goal.returns-then-is_err-2-clause-err
returns-then-is_err-2-clause-err g c =
    rw (← c.self.view_is) (rw (framed-frame c.args.payload.now c.fill_frame.new.frame.items c.fill_frame.ensures.bytes) refl)

pub invariant_of-self-2 : goal.invariant_of-self-2
invariant_of-self-2 g c =
    let j = c.self.inside in
    let certain : doubtful j.doubt j.frame.items ≡ None = rw (← c.self.view_is) at c.requires.certain in
    let behind : j.gate < 2 ^ 62 → c.saturating_add-behind.result ≡ j.gate + 1 = λ within. omega (arith, within, c.saturating_add-behind.ensures) in
    let payload = c.args.payload.now in
    let fine = sym c.is_err.ensures.value ∙ c.if-is_err.false in
    let short : length payload < 2 ^ 32 = omega (arith, c.requires.short) in
    let fine-2 = sym c.is_err-2.ensures.value ∙ c.if-is_err-2.false in
    let opened : (image : List ℕ) → images g c.put-2.new.disk image → AtRest (j.settled.payloads ++ payload ∷ []) (j.gate + 5 + length payload) image = λ image left.
    gate-opened j.settled.payloads payload j.gate (g.D.Disk.content c.put.new.disk) (images g c.put.new.disk) (g.met.D.Disk.is_an_image c.put.new.disk) (half g j certain c.self.invariant c.saturating_add-behind.result behind c.put.new.disk payload c.as_slice.result.now
    (c.as_slice.ensures.value ∙ c.fill_frame.ensures.bytes) short (on_ok c.put.result fine c.put.ensures.written) (on_ok c.put.result fine c.put.ensures.durable)) image
    (landed j.gate (1 ∷ []) (g.D.Disk.content c.put.new.disk) (g.D.Disk.content c.put-2.new.disk) image
    (on_ok c.put-2.result fine-2 c.put-2.ensures.written) (on_ok c.put-2.result fine-2 c.put-2.ensures.durable image left)) in
    λ image left.
    let at = opened image left in
    let gate : j.gate + 5 + length payload ≡ c.saturating_add-self-inside.result = omega (arith, at.within, c.saturating_add-self-inside.ensures) in
    rw (not_in_doubt j.doubt j.frame.items certain, c.push.ensures) (subst (λ (n : ℕ). AtRest (j.settled.payloads ++ payload ∷ []) n image) gate at)

pub returns-clause-moments : goal.returns-clause-moments
returns-clause-moments g c =
    let j = c.self.inside in
    let certain : doubtful j.doubt j.frame.items ≡ None = rw (← c.self.view_is) at c.requires.certain in
    let behind : j.gate < 2 ^ 62 → c.saturating_add-behind.result ≡ j.gate + 1 = λ within. omega (arith, within, c.saturating_add-behind.ensures) in
    let payload = c.args.payload.now in
    let fine = sym c.is_err.ensures.value ∙ c.if-is_err.false in
    let short : length payload < 2 ^ 32 = omega (arith, c.requires.short) in
    let opening = torn_gate g j certain c.self.invariant c.saturating_add-behind.result behind c.put.new.disk payload c.as_slice.result.now
    (c.as_slice.ensures.value ∙ c.fill_frame.ensures.bytes) short (on_ok c.put.result fine c.put.ensures.written) (on_ok c.put.result fine c.put.ensures.durable) in
    rw (← c.self.view_is) (Passed-then {during = TornFrom c.saturating_add-behind.result (length c.as_slice.result.now) (images g j.disk)} {later = TornFrom j.gate 1 (images g c.put.new.disk)} c.put.ensures.moments c.put-2.ensures.moments
    (λ image left. inl (torn g j certain c.self.invariant c.saturating_add-behind.result behind (length c.as_slice.result.now) image left).holds)
    (λ image left. HalfOpen-left j.settled.payloads payload j.gate image (opening image left)))

pub returns-clause-acknowledged : goal.returns-clause-acknowledged
returns-clause-acknowledged g c =
    let j = c.self.inside in
    let certain : doubtful j.doubt j.frame.items ≡ None = rw (← c.self.view_is) at c.requires.certain in
    rw (← c.self.view_is) (λ image left. (rw (not_in_doubt j.doubt j.frame.items certain, c.push.ensures) at (invariant_of-self-2 g c image left)).holds)

pub returns-clause-ok : goal.returns-clause-ok
returns-clause-ok g c =
    let j = c.self.inside in
    let certain : doubtful j.doubt j.frame.items ≡ None = rw (← c.self.view_is) at c.requires.certain in
    rw (← c.self.view_is) (rw (not_in_doubt j.doubt j.frame.items certain, c.push.ensures) refl)

pub returns-clause-bytes : goal.returns-clause-bytes
returns-clause-bytes g c =
    let j = c.self.inside in
    let certain : doubtful j.doubt j.frame.items ≡ None = rw (← c.self.view_is) at c.requires.certain in
    let behind : j.gate < 2 ^ 62 → c.saturating_add-behind.result ≡ j.gate + 1 = λ within. omega (arith, within, c.saturating_add-behind.ensures) in
    let fine = sym c.is_err.ensures.value ∙ c.if-is_err.false in
    let fine-2 = sym c.is_err-2.ensures.value ∙ c.if-is_err-2.false in
    rw (← c.self.view_is) (appended j.settled.payloads c.args.payload.now c.as_slice.result.now j.gate (c.as_slice.ensures.value ∙ c.fill_frame.ensures.bytes) c.saturating_add-behind.result
    (g.D.Disk.content j.disk) (g.D.Disk.content c.put.new.disk) (g.D.Disk.content c.put-2.new.disk)
    (λ bytes told. rests g j certain c.self.invariant c.saturating_add-behind.result behind bytes (g.met.D.Disk.is_an_image j.disk bytes told)) behind
    (on_ok c.put.result fine c.put.ensures.written) (on_ok c.put-2.result fine-2 c.put-2.ensures.written))
