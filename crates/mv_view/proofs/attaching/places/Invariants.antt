use Rattle.std.proofs.Common.{◌≡◌}
use Rattle.std.specs.Prelude.{replicate, None}
use Rattle.mv_view.proofs.attaching.places.Given as goal

abbrev pub invariant-loop : goal.invariant-loop
invariant-loop l = l.objects.items ≡ replicate l.counter None
