use Rattle.dml_grammar.proofs.callers.Trees.{tree_right}
use Rattle.dml_grammar.proofs.laws.each_list_is_answered.Goals as goal

pub returns : goal.returns
returns c = tree_right
