use Rattle.std.proofs.Common.{◌≡◌, [], take, drop}
use Rattle.aw_schema.specs.Checking.{first_repeated}
use Rattle.aw_schema.proofs.catalogue.first_repeated.Given as goal

abbrev pub invariant-loop-at : goal.invariant-loop-at
invariant-loop-at l = first_repeated (take l.at l.objects) (drop l.at l.objects) ≡ first_repeated [] l.objects
