use Rattle.std.proofs.Common.{◌≡◌, map, take}
use Rattle.dml_loop.specs.inside.Wheels.{standing}
use Rattle.dml_loop.proofs.places.place_of.Given as goal

abbrev pub invariant-loop-wheel : goal.invariant-loop-wheel
invariant-loop-wheel l = l.place ≡ map standing (take l.wheel-index l.wheels)
