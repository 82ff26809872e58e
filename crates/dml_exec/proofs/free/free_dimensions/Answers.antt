use Rattle.std.proofs.Common.{◌∙◌, ℕ, ◌+◌, ◌<◌, List, ◌++◌, length, drop, sym, ap, arith}
use Rattle.std.proofs.lemmas.List.{at_drop_more}
use Rattle.dml_exec.specs.declared.op.Op.{Op}
use Rattle.dml_exec.specs.Free.{free_in, free_in_op, with_all}
use Rattle.dml_exec.proofs.FreeDimensions.{all_append}
use Rattle.dml_exec.proofs.free.free_dimensions.Goals as goal

pub loop-op-preserved : goal.loop-op-preserved
loop-op-preserved c =
    let op = c.op-item.result in
    let at = c.loop-op.op-index in
    let ops = c.args.ops.now in
    let within : at < length ops = omega arith in
    ap (λ (free : List ℕ). with_all free (free_in (drop (at + 1) ops))) c.in_ok-note_op.ensures
    ∙ sym (all_append c.loop-op.free.items (free_in_op op) (free_in (drop (at + 1) ops)))
    ∙ ap (λ (o : Op). with_all c.loop-op.free.items (free_in_op o ++ free_in (drop (at + 1) ops))) c.op-item.is
    ∙ sym (at_drop_more (λ (xs : List Op). with_all c.loop-op.free.items (free_in xs)) ops at op within)
    ∙ c.loop-op.invariant
