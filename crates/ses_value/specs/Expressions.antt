-- Expressions of a session's line.
use Rattle.std.specs.Prelude.{◌≡◌, []}
use Rattle.dml_kinds.specs.declared.checking.TypedExpr.{TypedExpr}
use Rattle.dml_kinds.specs.FreeDimensions.{first_appearances}
use Rattle.dml_kinds.specs.TreeDimensions.{tree_dimensions}
use Rattle.dml_compile.specs.NamedFormulas.{AreAsNamed}

-- it has no locals, lies over the dimensions of its tree, and names no formula, since there is none yet
pub record IsOfALine (expression : TypedExpr) : Type 0 where
  pub locals : expression.locals ≡ []
  pub dimensions : expression.dimensions ≡ first_appearances (tree_dimensions expression.tree)
  pub formulas : AreAsNamed [] expression.tree
