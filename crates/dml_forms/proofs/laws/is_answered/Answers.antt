use Rattle.dml_forms.specs.FormLaws.{itself}
use Rattle.dml_forms.proofs.Answering.{answered}
use Rattle.dml_forms.proofs.laws.is_answered.Goals as goal

pub returns : goal.returns
returns c = λ rule first cont nullable rank fit limit kept none n xs. answered itself rule limit kept first cont nullable rank fit n xs none
