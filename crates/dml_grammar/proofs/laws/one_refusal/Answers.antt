use Rattle.dml_grammar.proofs.callers.Answering.{not_refused, one_refusal}
use Rattle.dml_grammar.proofs.laws.one_refusal.Goals as goal

pub returns : goal.returns
returns c = λ n xs j k refusal. (λ v a. not_refused n xs k v refusal a, λ was. one_refusal n xs j k was refusal)
