use Rattle.dml_forms.specs.FormLaws.{itself}
use Rattle.dml_forms.proofs.Parts.{one_value}
use Rattle.dml_forms.proofs.laws.one_tree.Goals as goal

pub returns : goal.returns
returns c = λ rule first cont nullable rank fit h k n xs v w d e. one_value itself rule first cont nullable rank fit h k n xs v w d e
