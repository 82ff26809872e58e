use Rattle.std.proofs.Common.{◌≡◌, ℕ, ◌+◌, ◌<◌, ◌^◌, IfSome, List, [], ◌∷◌, ◌++◌, length, ap, sym, subst, ◌∙◌, arith}
use Rattle.aw_journal.specs.Format.{frames, placed, AreShort}
use Rattle.aw_journal.specs.inside.FramesRead.{HasRead}
use Rattle.aw_journal.specs.declared.payload.Payload.{Payload}
use Rattle.aw_journal.proofs.callers.Frames.{length-frames-push, AreShort-push}
use Rattle.aw_journal.proofs.Loading.{placed-push, frame_taken, frame_explains}
use Rattle.aw_journal.proofs.FramesRead.{IfSome_both}
use Rattle.aw_journal.proofs.read.take_frame.Goals as goal

pub returns-in-Err-clause-err : goal.returns-in-Err-clause-err
returns-in-Err-clause-err g c =
    let found = c.args.found.now in
    let progress = c.requires.progress in
    frame_explains c.in-Err.fault found.settled.payloads found.gate c.args.size (g.D.Disk.content c.args.disk.now) _ _ progress.place progress.short progress.told c.in-Err.ensures.err

pub returns-in-Ok-push-clause-ok : goal.returns-in-Ok-push-clause-ok
returns-in-Ok-push-clause-ok g c =
    let found = c.args.found.now in
    let progress = c.requires.progress in
    let payload = c.in-Ok.frame.0 in
    let at : ℕ → Payload = λ n. record { offset = n; bytes = payload } in
    let pushed : found.settled.payloads ++ payload ∷ [] ≡ c.push.new.self.payloads = ap (λ (l : List ℕ). found.settled.payloads ++ l ∷ []) (sym c.as_slice.ensures) ∙ sym c.push.ensures in
    let short : length payload < 2 ^ 32 = omega (arith, c.in-Ok.ensures.size, c.ranges.size.fits) in
    record {
      places = c.in-Ok-push.ensures.ok ∙ ap (λ (l : List Payload). l ++ at found.gate ∷ []) progress.places
          ∙ ap (λ (n : ℕ). placed 8 found.settled.payloads ++ at n ∷ []) progress.place
          ∙ sym (placed-push 8 found.settled.payloads payload) ∙ ap (λ (l : List (List ℕ)). placed 8 l) pushed;
      place = subst (λ (l : List (List ℕ)). found.gate + 5 + c.args.size ≡ 8 + length (frames l)) pushed (omega (arith, progress.place, length-frames-push found.settled.payloads payload, c.in-Ok.ensures.size));
      bound = omega (arith, c.in-Ok.ensures.inside, c.requires.limit);
      short = subst AreShort pushed (AreShort-push found.settled.payloads payload progress.short short);
      told = subst (λ (l : List (List ℕ)). IfSome (g.D.Disk.content c.args.disk.now) (HasRead l c.in-Ok.frame.1)) pushed
          (IfSome_both (g.D.Disk.content c.args.disk.now) progress.told c.in-Ok.ensures.ok
          (λ content read frame. frame_taken found.settled.payloads found.gate c.args.size content progress.place read payload c.in-Ok.frame.1 c.in-Ok.ensures.size frame));
    }
