use Rattle.dml_exec.specs.inside.Arrivals.{AreUnreached}
use Rattle.dml_exec.proofs.survey.unreached.Given as goal

abbrev pub invariant-loop-place : goal.invariant-loop-place
invariant-loop-place l = AreUnreached l.arrivals.items l._place
