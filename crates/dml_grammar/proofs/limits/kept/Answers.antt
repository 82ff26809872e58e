use Rattle.dml_grammar.proofs.Limiting.{front_is_longest, front_within}
use Rattle.dml_grammar.proofs.limits.kept.Goals as goal

pub returns-clause-longest : goal.returns-clause-longest
returns-clause-longest c = front_is_longest _ _ c.kept_count.ensures

pub returns-clause-within : goal.returns-clause-within
returns-clause-within c = front_within _ _ c.kept_count.ensures
