use Rattle.dml_forms.specs.FormLaws.{itself}
use Rattle.dml_forms.proofs.Fronts.{derives_more, starts_more}
use Rattle.dml_forms.proofs.laws.heights_grow.Goals as goal

pub returns : goal.returns
returns c = λ rule h n xs. (λ v d. derives_more itself rule h n xs v d, λ d. starts_more itself rule h n xs d)
