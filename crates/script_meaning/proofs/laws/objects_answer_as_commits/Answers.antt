use Rattle.script_meaning.proofs.callers.ObjectsSimulation.{are_alike}
use Rattle.script_meaning.proofs.laws.objects_answer_as_commits.Goals as goal

pub returns : goal.returns
returns c = are_alike
