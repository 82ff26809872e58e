use Rattle.dml_forms.specs.FormLaws.{itself}
use Rattle.dml_forms.proofs.Answering.{not_both, one_place}
use Rattle.dml_forms.proofs.laws.one_answer.Goals as goal

pub returns : goal.returns
returns c = λ rule limit kept n xs j k r. (λ v a. not_both itself rule limit kept n xs k v r a, λ s. one_place itself rule limit kept n xs j k s r)
