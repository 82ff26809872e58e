use Rattle.dml_tree.proofs.TokensFound.{each_read}
use Rattle.dml_tree.proofs.laws.each_line_is_read.Goals as goal

pub returns : goal.returns
returns c = each_read
