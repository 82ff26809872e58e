use Rattle.dml_exec.specs.Verified.{rules_of}
use Rattle.dml_exec.specs.inside.Arrivals.{Surveys}
use Rattle.dml_exec.proofs.survey.surveyed.Given as goal

abbrev pub invariant-loop-at : goal.invariant-loop-at
invariant-loop-at l = Surveys (rules_of l.kinds l.fixes l.ops) l.at l.survey
