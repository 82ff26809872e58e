use Rattle.std.proofs.Common.{◌≡◌, ◌++◌, map, drop}
use Rattle.dml_kinds.specs.Names.{targets_of_all}
use Rattle.dml_types.proofs.checking.targets_of.Given as goal

abbrev pub invariant-loop-expr : goal.invariant-loop-expr
invariant-loop-expr l = map (λ target. target.now) l.targets.items ++ targets_of_all (map (λ e. e.now) (drop l.expr-index l.exprs)) ≡ targets_of_all (map (λ e. e.now) l.exprs)
