use Rattle.std.proofs.Common.{◌≡◌, drop}
use Rattle.dml_types.specs.Statements.{arguments_fit}
use Rattle.dml_types.proofs.fitting.arguments_fit.Given as goal

abbrev pub invariant-loop-kind : goal.invariant-loop-kind
invariant-loop-kind l = arguments_fit (drop l.kind-index l.kinds) l.types ≡ arguments_fit l.kinds l.initial.types
