use Rattle.std.proofs.Common.{rules, ◌≡◌, ◌∙◌, ◌&&◌, ◌+◌, ◌-◌, true, ap, ap₂, sym, drop, arith, subst}
use Rattle.std.specs.Ordering.{is_lt}
use Rattle.aw_var.specs.CellMap.{by_slots}
use Rattle.aw_body.specs.Fitting.{rise}
use Rattle.aw_body.proofs.Rising.{rise-next, rise-end, below_unless}
use Rattle.aw_body.proofs.Composing.{Change}
use Rattle.aw_body.proofs.fitting.rise.Goals as goal

pub loop-at-preserved : goal.loop-at-preserved
loop-at-preserved c =
    let next = rise-next c.args.changes.now (c.loop-at.at - 1) c.loop-at.at c.index-changes-at.result c.index-changes-at-in-loop-at.result (omega arith) (omega arith) c.index-changes-at.is c.index-changes-at-in-loop-at.is in
    let lower : is_lt (by_slots c.index-changes-at.result.0 c.index-changes-at-in-loop-at.result.0) ≡ true =
    ap₂ (λ (one other : Change). is_lt (by_slots one.0 other.0)) c.index-changes-at.is c.index-changes-at-in-loop-at.is ∙ below_unless _ c.if-ge.ensures in
    let here : c.loop-at.at + 1 - 1 ≡ c.loop-at.at = omega arith in
    ap (λ k. rise (drop k c.args.changes.now)) here ∙ ap (λ b. b && rise (drop c.loop-at.at c.args.changes.now)) (sym lower) ∙ sym next ∙ c.loop-at.invariant

pub returns : goal.returns
returns c = sym (sym c.loop-at.invariant ∙ rise-end c.args.changes.now (c.loop-at.at - 1) (omega arith))
