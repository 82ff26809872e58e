use Rattle.dml_forms.specs.FormLaws.{itself}
use Rattle.dml_forms.proofs.Parts.{derived_starts}
use Rattle.dml_forms.proofs.Fronts.{fronts_start}
use Rattle.dml_forms.proofs.laws.fronts_begin.Goals as goal

pub returns : goal.returns
returns c = λ rule h n xs ys. (λ v d. derived_starts itself rule h n xs v d, λ d. fronts_start itself rule h n xs ys d)
