use Rattle.dml_grammar.proofs.callers.Answering.{one_tree}
use Rattle.dml_grammar.proofs.laws.one_tree.Goals as goal

pub returns : goal.returns
returns c = one_tree
