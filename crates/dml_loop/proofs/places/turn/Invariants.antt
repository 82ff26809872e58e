use Rattle.std.proofs.Common.{◌≡◌, map}
use Rattle.std.specs.Prelude.{All}
use Rattle.dml_loop.specs.inside.Wheels.{standing, IsWithin}
use Rattle.dml_loop.specs.inside.Turning.{HasTurned}
use Rattle.dml_loop.proofs.places.turn.Given as goal

abbrev pub invariant-loop-at : goal.invariant-loop-at
invariant-loop-at l = record {
  within : All IsWithin l.wheels.items;
  place : l.place ≡ map standing l.wheels.items;
  turned : HasTurned l.initial.wheels.items l.wheels.items l.at;
}

abbrev pub decreases-loop-at : goal.decreases-loop-at
decreases-loop-at l = l.at
