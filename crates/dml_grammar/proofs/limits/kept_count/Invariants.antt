use Rattle.std.proofs.Common.{◌≡◌, ◌+◌, ◌≤◌, drop}
use Rattle.dml_grammar.specs.Limits.{none_counted}
use Rattle.dml_grammar.specs.inside.Fronts.{front}
use Rattle.dml_grammar.proofs.limits.kept_count.Given as goal

abbrev pub invariant-loop-token : goal.invariant-loop-token
invariant-loop-token l =
    (l.at ≡ l.token-index) × (l.at + front l.counts (drop l.token-index l.tokens) ≡ front none_counted l.tokens) × (l.counts.marks ≤ 200) × (l.counts.depth ≤ 32)
