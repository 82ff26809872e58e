use Rattle.std.proofs.Common.{◌≡◌, drop}
use Rattle.mv_core.specs.Effects.{each, free_listed}
use Rattle.mv_core.proofs.settling.free.Given as goal

abbrev pub invariant-loop-object : goal.invariant-loop-object
invariant-loop-object l =
    each (free_listed l.who (drop l.object-index l.listed)) l.objects ≡ each (free_listed l.who l.listed) l.initial.objects
