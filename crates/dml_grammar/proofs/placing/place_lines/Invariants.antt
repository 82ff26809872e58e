use Rattle.std.proofs.Common.{◌≡◌, ◌+◌, ◌++◌, drop}
use Rattle.dml_grammar.specs.PlacedTokens.{placed_lines, within}
use Rattle.dml_grammar.proofs.placing.place_lines.Given as goal

abbrev pub invariant-loop-line : goal.invariant-loop-line
invariant-loop-line l = (l.at ≡ within (l.from + l.line-index)) × (l.into ++ placed_lines (l.from + l.line-index) (drop l.line-index l.lines) ≡ l.fn.into ++ placed_lines l.from l.lines)
