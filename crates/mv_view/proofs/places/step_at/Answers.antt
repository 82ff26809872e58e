use Rattle.std.proofs.Common.{arith}
use Rattle.mv_view.proofs.WrittenPlaces.{written-there, nothing-there, past-all}
use Rattle.mv_view.specs.inside.Steps.{stepped}
use Rattle.mv_view.proofs.places.step_at.Goals as goal

pub returns-in-Some : goal.returns-in-Some
returns-in-Some c = written-there (stepped c.args.step) c.args.objects.now c.from-at.result c.args.object c.at_mut.result.now c.in-Some.kept c.step.new.self c.from-at.ensures c.at_mut.ensures.value c.in-Some.is c.step.ensures

pub returns-in_default : goal.returns-in_default
returns-in_default c = nothing-there (stepped c.args.step) c.args.objects.now c.from-at.result c.args.object c.at_mut.result.now c.from-at.ensures c.at_mut.ensures.value c.in_default.is

pub returns-else-at-len : goal.returns-else-at-len
returns-else-at-len c = past-all (stepped c.args.step) c.args.objects.now c.from-at.result c.args.object c.from-at.ensures (let size = c.len.ensures in let past = c.if-at-len.false in omega arith)
