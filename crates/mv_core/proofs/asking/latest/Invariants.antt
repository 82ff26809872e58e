use Rattle.std.proofs.Common.{◌≡◌, ◌++◌, drop}
use Rattle.mv_core.specs.Lookups.{latest_of}
use Rattle.mv_core.proofs.asking.latest.Given as goal

abbrev pub invariant-loop-object : goal.invariant-loop-object
invariant-loop-object l = l.latest.items ++ latest_of l.objects (drop l.object-index l.listed) ≡ latest_of l.objects l.listed
