use Rattle.std.proofs.Common.{◌≡◌, ◌++◌, drop}
use Rattle.mv_core.specs.inside.Making.{made_of}
use Rattle.mv_core.proofs.changing.made.Given as goal

abbrev pub invariant-loop-change : goal.invariant-loop-change
invariant-loop-change l = l.made.items ++ made_of l.objects (drop l.change-index l.changes) ≡ made_of l.objects l.changes
