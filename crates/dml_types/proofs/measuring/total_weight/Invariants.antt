use Rattle.std.proofs.Common.{◌≡◌, ◌≤◌, ◌+◌, drop}
use Rattle.dml_kinds.specs.inside.Capped.{capped}
use Rattle.dml_types.specs.inside.Parts.{total_weight}
use Rattle.dml_types.proofs.measuring.total_weight.Given as goal

abbrev pub invariant-loop-part : goal.invariant-loop-part
invariant-loop-part l = record {
  same : capped (l.total + total_weight (drop l.part-index l.parts)) ≡ capped (total_weight l.parts);
  small : l.total ≤ 4294967295;
}
