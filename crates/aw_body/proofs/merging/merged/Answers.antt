use Rattle.std.proofs.Common.{rules, ◌≡◌, ◌∙◌, ◌+◌, ◌++◌, ◌∷◌, ◌⊎◌, inl, inr, [], ap, sym, refl, drop, arith, subst}
use Rattle.aw_body.proofs.Composing.{drop-here, rising-next, first-step, second-step, both-step, merged-end, rest-from}
use Rattle.std.proofs.Math.ListN.{drop_of_length-le}
use Rattle.aw_var.specs.CellMap.{Cells}
use Rattle.aw_var.specs.CellPatch.{composed}
use Rattle.aw_body.proofs.merging.merged.Goals as goal
use Rattle.aw_body.proofs.merging.merged.Goals.{then-loop-i-test+else-j-second, else-loop-i-test}

pub loop-i-preserved-in-Less : goal.loop-i-preserved-in-Less
loop-i-preserved-in-Less c =
    let first = c.args.first.now in
    let second = c.args.second.now in
    let in_first = drop-here first c.loop-i.i (c.loop-i.i + 1) c.index-first-i.result refl (omega arith) c.index-first-i.is in
    let in_second = drop-here second c.loop-i.j (c.loop-i.j + 1) c.index-second-j.result refl (omega arith) c.index-second-j.is in
    let at = c.loop-i.invariant in
    record {
      within = omega arith;
      second_within = omega arith;
      rising = at.rising;
      same = ap (λ (done : Cells). done ++ composed (drop (c.loop-i.i + 1) first) (drop c.loop-i.j second)) c.in_ok-push-in-Less.ensures.items ∙ first-step c.loop-i.all.items _ first second c.loop-i.i c.loop-i.j (c.loop-i.i + 1) (c.loop-i.j + 1) c.index-first-i.result c.index-second-j.result in_first in_second at.rising at.same (sym c.in-Less.ensures);
    }

pub loop-i-preserved-in-Equal : goal.loop-i-preserved-in-Equal
loop-i-preserved-in-Equal c =
    let first = c.args.first.now in
    let second = c.args.second.now in
    let in_first = drop-here first c.loop-i.i (c.loop-i.i + 1) c.index-first-i.result refl (omega arith) c.index-first-i.is in
    let in_second = drop-here second c.loop-i.j (c.loop-i.j + 1) c.index-second-j.result refl (omega arith) c.index-second-j.is in
    let at = c.loop-i.invariant in
    record {
      within = omega arith;
      second_within = omega arith;
      rising = rising-next c.loop-i.all.items _ first second c.loop-i.i c.loop-i.j (c.loop-i.i + 1) (c.loop-i.j + 1) c.index-first-i.result c.index-second-j.result in_first in_second at.rising at.same;
      same = ap (λ (done : Cells). done ++ composed (drop (c.loop-i.i + 1) first) (drop (c.loop-i.j + 1) second)) c.in_ok-push-in-Equal.ensures.items ∙ both-step c.loop-i.all.items _ first second c.loop-i.i c.loop-i.j (c.loop-i.i + 1) (c.loop-i.j + 1) c.index-first-i.result c.index-second-j.result in_first in_second at.rising at.same (sym c.in-Equal.ensures);
    }

pub loop-i-preserved : goal.loop-i-preserved
loop-i-preserved c =
    let first = c.args.first.now in
    let second = c.args.second.now in
    let in_first = drop-here first c.loop-i.i (c.loop-i.i + 1) c.index-first-i.result refl (omega arith) c.index-first-i.is in
    let in_second = drop-here second c.loop-i.j (c.loop-i.j + 1) c.index-second-j.result refl (omega arith) c.index-second-j.is in
    let at = c.loop-i.invariant in
    record {
      within = omega arith;
      second_within = omega arith;
      rising = rising-next c.loop-i.all.items _ first second c.loop-i.i c.loop-i.j (c.loop-i.i + 1) (c.loop-i.j + 1) c.index-first-i.result c.index-second-j.result in_first in_second at.rising at.same;
      same = ap (λ (done : Cells). done ++ composed (drop c.loop-i.i first) (drop (c.loop-i.j + 1) second)) c.in_ok-push-in-Greater.ensures.items ∙ second-step c.loop-i.all.items _ first second c.loop-i.i c.loop-i.j (c.loop-i.i + 1) (c.loop-i.j + 1) c.index-first-i.result c.index-second-j.result in_first in_second at.rising at.same (sym c.in-Greater.ensures);
    }

pub returns : goal.returns
returns c =
    let ended : (drop c.loop-i.i c.args.first.now ≡ []) ⊎ (drop c.loop-i.j c.args.second.now ≡ []) =
    elim c.loop-i-test.branch [
      | then-loop-i-test+else-j-second w ↦ inr (drop_of_length-le c.args.second.now w.if-j-second.false)
      | else-loop-i-test w ↦ inl (drop_of_length-le c.args.first.now w.loop-i-test.false)
    ] in
    let all = merged-end c.loop-i.all.items _ (drop c.loop-i.i c.args.first.now) (drop c.loop-i.j c.args.second.now) c.loop-i.invariant.rising c.loop-i.invariant.same ended in
    c.in_ok-extend_from_slice-2.ensures.items ∙ rw (c.in_ok-extend_from_slice.ensures.items, rest-from c.args.first.now c.loop-i.i, rest-from c.args.second.now c.loop-i.j) all
