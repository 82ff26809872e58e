use Rattle.std.proofs.Common.{arith}
use Rattle.mv_view.proofs.WrittenPlaces.{written-there, nothing-there, past-all}
use Rattle.mv_view.specs.Rules as rule
use Rattle.mv_view.proofs.places.maintain_at.Goals as goal

pub returns-in-Some-clause-objects : goal.returns-in-Some-clause-objects
returns-in-Some-clause-objects c = written-there (rule.with_values c.args.values) c.args.objects.now c.from-at.result c.args.object c.at_mut.result.now c.in-Some.kept c.maintain.new.self c.from-at.ensures c.at_mut.ensures.value c.in-Some.is c.maintain.ensures

pub returns-in_default-clause-objects : goal.returns-in_default-clause-objects
returns-in_default-clause-objects c = nothing-there (rule.with_values c.args.values) c.args.objects.now c.from-at.result c.args.object c.at_mut.result.now c.from-at.ensures c.at_mut.ensures.value c.in_default.is

pub returns-else-at-len-clause-objects : goal.returns-else-at-len-clause-objects
returns-else-at-len-clause-objects c = past-all (rule.with_values c.args.values) c.args.objects.now c.from-at.result c.args.object c.from-at.ensures (let size = c.len.ensures in let past = c.if-at-len.false in omega arith)
