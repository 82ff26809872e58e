use Rattle.std.proofs.Common.{◌≡◌, ◌+◌, ◌++◌, drop}
use Rattle.dml_grammar.specs.PlacedTokens.{placed, placed_from}
use Rattle.dml_grammar.proofs.placing.place_line.Given as goal

abbrev pub invariant-loop-token : goal.invariant-loop-token
invariant-loop-token l = (l.behind ≡ l.token-index + 1) × (l.into ++ placed_from l.line l.first l.past (drop l.token-index l.tokens) ≡ l.fn.into ++ placed l.line l.tokens)
