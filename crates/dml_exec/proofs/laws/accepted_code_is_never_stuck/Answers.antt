use Rattle.dml_exec.proofs.NeverStuck.{never-stuck}
use Rattle.dml_exec.proofs.laws.accepted_code_is_never_stuck.Goals as goal

pub returns : goal.returns
returns c = never-stuck
