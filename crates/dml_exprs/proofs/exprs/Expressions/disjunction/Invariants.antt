use Rattle.std.proofs.Common.{◌≡◌, ◌≤◌, length}
use Rattle.dml_grammar.specs.Grammar as g
use Rattle.dml_grammar.specs.inside.Tables.{reads}
use Rattle.dml_exprs.proofs.exprs.Expressions.disjunction.Given as goal

abbrev pub invariant-loop-left : goal.invariant-loop-left
invariant-loop-left o l = (reads g.or l.fn.tokens.rest.now ≡ reads (g.more_or l.left) l.tokens.rest.now) × (length l.tokens.rest.now ≤ length l.fn.tokens.rest.now)

abbrev pub decreases-loop-left : goal.decreases-loop-left
decreases-loop-left o l = length l.tokens.rest.now
