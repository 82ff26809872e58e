use Rattle.std.proofs.Common.{◌∙◌, ap}
use Rattle.std.specs.Prelude.{option_map}
use Rattle.dml_tree.specs.Words.{word_number}
use Rattle.dml_tree.proofs.WordTable.{word_found}
use Rattle.dml_tree.proofs.word.Word.of.Goals as goal

pub returns : goal.returns
returns c = ap (option_map word_number) c.look_up.ensures ∙ word_found c.args.written.now
