use Rattle.dml_compile.proofs.AcceptedCode.{accepted-have-code}
use Rattle.dml_compile.proofs.laws.accepted_expressions_have_code.Goals as goal

pub returns : goal.returns
returns c = accepted-have-code
