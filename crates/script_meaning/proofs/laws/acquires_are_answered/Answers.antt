use Rattle.script_meaning.proofs.AcquireAnswers.{acquires_are_answered}
use Rattle.script_meaning.proofs.laws.acquires_are_answered.Goals as goal

pub returns : goal.returns
returns c = acquires_are_answered
