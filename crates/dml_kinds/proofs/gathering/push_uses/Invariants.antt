use Rattle.std.proofs.Common.{◌≡◌, ◌++◌, [], not, map, filter, take, drop}
use Rattle.dml_tree.specs.declared.expr.Fix.{Fix}
use Rattle.dml_kinds.specs.declared.meaning.Role.TheVariants as role
use Rattle.dml_kinds.specs.Names.{use_as}
use Rattle.dml_kinds.proofs.gathering.push_uses.Given as goal

abbrev pub invariant-loop-fix : goal.invariant-loop-fix
invariant-loop-fix l = l.into.items ++ map (λ (fix : Fix). use_as role.Dimension fix.dimension) (drop l.fix-index l.fix-items) ≡ l.initial.into.items ++ map (λ (fix : Fix). use_as role.Dimension fix.dimension) l.fix-items
