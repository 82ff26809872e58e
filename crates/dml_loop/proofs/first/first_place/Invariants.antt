use Rattle.std.proofs.Common.{◌≡◌, drop}
use Rattle.dml_loop.specs.Evaluation.{first_place}
use Rattle.dml_loop.specs.inside.Progress.{behind}
use Rattle.dml_loop.proofs.first.first_place.Given as goal

abbrev pub invariant-loop-list : goal.invariant-loop-list
invariant-loop-list l = behind l.place (first_place (drop l.list-index l.lists)) ≡ first_place l.lists
