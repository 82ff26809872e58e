use Rattle.std.proofs.Common.{◌≡◌, ◌++◌, map, drop}
use Rattle.dml_kinds.specs.Meanings.{names_in}
use Rattle.dml_types.specs.inside.Parts.{with_trees}
use Rattle.dml_types.proofs.measuring.typed_list.Given as goal

abbrev pub invariant-loop-expr : goal.invariant-loop-expr
invariant-loop-expr l =
    l.typed ++ with_trees (names_in l.scope.catalogue.now l.scope.known.now l.scope.locals.now) l.scope.locals.now (map (λ e. e.now) (drop l.expr-index l.exprs)) l.parts
    ≡ with_trees (names_in l.scope.catalogue.now l.scope.known.now l.scope.locals.now) l.scope.locals.now (map (λ e. e.now) l.exprs) l.initial.parts
