use Rattle.std.proofs.Common.{◌≡◌, ◌++◌, map, drop}
use Rattle.dml_kinds.specs.Meanings.{names_in}
use Rattle.dml_types.specs.inside.Parts.{found_of}
use Rattle.dml_types.proofs.measuring.parts_of.Given as goal

abbrev pub invariant-loop-expr : goal.invariant-loop-expr
invariant-loop-expr l = l.parts ++ map (found_of (names_in l.scope.catalogue.now l.scope.known.now l.scope.locals.now)) (map (λ e. e.now) (drop l.expr-index l.exprs)) ≡ map (found_of (names_in l.scope.catalogue.now l.scope.known.now l.scope.locals.now)) (map (λ e. e.now) l.exprs)
