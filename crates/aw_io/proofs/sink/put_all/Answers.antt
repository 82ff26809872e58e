use Rattle.std.proofs.Common.{arith}
use Rattle.std.proofs.Math.Seq.{take-add}
use Rattle.std.proofs.lemmas.List.{take_rest, length-drop}
use Rattle.aw_io.specs.Known.{Grows-append}
use Rattle.aw_io.proofs.sink.put_all.Goals as goal

pub loop-done-preserved : goal.loop-done-preserved
loop-done-preserved g c =
    let put = rw (take_rest c.args.bytes.now c.loop-done.done) at c.in-Put.ensures.put in
    record {
      untouched = λ zero. absurd (omega arith);
      within = omega (arith, length-drop c.loop-done.done c.args.bytes.now, put.within);
      grows = rw (take-add c.loop-done.done c.in-Put.count c.args.bytes.now) (Grows-append c.loop-done.invariant.grows put.grows);
      later = omega (arith, c.in-Put.ensures.later);
    }
