use Rattle.std.proofs.Common.{◌≡◌, ◌++◌, [], not, map, filter, take, drop}
use Rattle.dml_kinds.specs.Names.{uses}
use Rattle.dml_kinds.proofs.gathering.push_value_uses.Given as goal

abbrev pub invariant-loop-target : goal.invariant-loop-target
invariant-loop-target l = l.into.items ++ uses (map (λ target. target.now) (drop l.target-index l.targets)) ≡ l.initial.into.items ++ uses (map (λ target. target.now) l.targets)
