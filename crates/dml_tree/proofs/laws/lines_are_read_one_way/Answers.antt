use Rattle.dml_tree.proofs.Once.{spelled_once, tokens_once, fault_once, tokens_or_fault}
use Rattle.dml_tree.proofs.laws.lines_are_read_one_way.Goals as goal

pub returns : goal.returns
returns c = record { one_token = spelled_once; one_list = tokens_once; one_fault = fault_once; not_both = tokens_or_fault }
