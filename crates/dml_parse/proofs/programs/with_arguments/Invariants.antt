use Rattle.std.proofs.Common.{◌≡◌, ◌≤◌, length, []}
use Rattle.dml_grammar.specs.Grammar as g
use Rattle.dml_grammar.specs.inside.Tables.{reads}
use Rattle.dml_parse.proofs.programs.with_arguments.Given as goal

abbrev pub invariant-loop-tokens : goal.invariant-loop-tokens
invariant-loop-tokens l = (reads (g.variables l.fn.arguments []) l.fn.tokens.rest.now ≡ reads (g.variables l.fn.arguments l.variables) l.tokens.rest.now) × (length l.tokens.rest.now ≤ length l.fn.tokens.rest.now)

abbrev pub decreases-loop-tokens : goal.decreases-loop-tokens
decreases-loop-tokens l = length l.tokens.rest.now
