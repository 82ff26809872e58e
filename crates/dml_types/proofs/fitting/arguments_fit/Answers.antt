use Rattle.std.proofs.Common.{◌<◌, ◌∙◌, sym, length, drop, arith, length-drop}
use Rattle.aw_cell.specs.declared.cell.Kind.{Kind}
use Rattle.dml_types.proofs.Arguments.{none_left}
use Rattle.dml_types.proofs.fitting.arguments_fit.Goals as goal

pub returns-in_default : goal.returns-in_default
returns-in_default c =
    let few : length c.loop-kind.types.now < 1 = omega (arith, c.in_default.len_below) in
    let some : 0 < length (drop c.loop-kind.kind-index c.args.kinds.now) = omega (arith, length-drop {A = Kind}, c.loop-kind-test.true) in
    sym (none_left (drop c.loop-kind.kind-index c.args.kinds.now) c.loop-kind.types.now few some) ∙ c.loop-kind.invariant
