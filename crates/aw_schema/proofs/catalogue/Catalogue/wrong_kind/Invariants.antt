use Rattle.std.proofs.Common.{◌≡◌, drop}
use Rattle.aw_schema.specs.Checking.{wrong_kind}
use Rattle.aw_schema.proofs.catalogue.Catalogue.wrong_kind.Given as goal

abbrev pub invariant-loop-object : goal.invariant-loop-object
invariant-loop-object l = wrong_kind l.self (drop l.object-index l.objects) ≡ wrong_kind l.self l.objects
