use Rattle.std.proofs.Common.{◌≤◌, List, length, sym, subst}
use Rattle.std.specs.Prelude.{All}
use Rattle.dml_loop.specs.Loops.{Place}
use Rattle.dml_loop.proofs.EachPlace.{few-slots}
use Rattle.dml_loop.proofs.evaluation.assigned.Goals as goal

pub filled-requires-clause-few : goal.filled-requires-clause-few
filled-requires-clause-few g c = subst (λ (all : List Place). All (λ (place : Place). length place ≤ 6) all) (sym c.in_ok-places.ensures) (few-slots c.args.lists.now c.requires.few)
