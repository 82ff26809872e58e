use Rattle.std.proofs.Common.{◌≡◌, ◌≤◌, length, []}
use Rattle.dml_grammar.specs.Grammar as g
use Rattle.dml_grammar.specs.inside.Tables.{reads}
use Rattle.dml_parse.proofs.programs.with_locals.Given as goal

abbrev pub invariant-loop-alloc : goal.invariant-loop-alloc
invariant-loop-alloc l = (reads (g.ending l.fn.arguments l.fn.variables []) l.fn.tokens.rest.now ≡ reads (g.ending l.fn.arguments l.fn.variables l.steps) l.tokens.rest.now) × (length l.tokens.rest.now ≤ length l.fn.tokens.rest.now)

abbrev pub decreases-loop-alloc : goal.decreases-loop-alloc
decreases-loop-alloc l = length l.tokens.rest.now
