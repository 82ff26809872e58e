use Rattle.std.proofs.Common.{◌≡◌, take}
use Rattle.std.specs.Prelude.{filter_map}
use Rattle.std.specs.Option.{option_and_then}
use Rattle.mv_view.specs.Each.{object_in}
use Rattle.mv_view.specs.Rules.{change_of}
use Rattle.mv_view.proofs.gathering.gathered.Given as goal

abbrev pub invariant-loop-object : goal.invariant-loop-object
invariant-loop-object l = l.changes.items ≡ filter_map (λ object. option_and_then (change_of object) (object_in l.objects object)) (take l.object-index l.object-items)
