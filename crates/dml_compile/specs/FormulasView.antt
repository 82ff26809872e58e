-- Formulas with their code, as callers see them.
use Rattle.std.specs.Prelude.{ℕ, List}
use Rattle.aw_cell.specs.declared.cell.Kind.{Kind}
use Rattle.aw_cell.specs.declared.cell.Kind.TheVariants.{Int as INTEGER}
use Rattle.dml_kinds.specs.declared.types.ValueType.{ValueType}
use Rattle.dml_kinds.specs.declared.types.ValueType.TheVariants as type
use Rattle.dml_kinds.specs.declared.checking.TypedExpr.{TypedExpr}
use Rattle.dml_exec.specs.declared.kinds.Kinds.{Kinds}
use Rattle.dml_exec.specs.declared.kinds.ObjectKind.{ObjectKind}
use Rattle.dml_compile.specs.Values.{FormulaTree}

-- the kinds of all objects, and the expressions of the formulas, the last one first
pub record FormulasView : Type 0 where
  pub objects : List ObjectKind
  pub trees : List FormulaTree

-- the kind in which the value of a type is wanted; NA alone is one of any kind
abbrev pub wanted_for : ValueType → Kind
wanted_for type.Na = INTEGER
wanted_for (type.Of kind) = kind

abbrev pub formula_tree : ℕ → TypedExpr → FormulaTree
formula_tree object expression = record { object = object; kind = wanted_for expression.kind; tree = expression.tree }

-- what code of an expression may name that has these locals
abbrev pub kinds_with : List ObjectKind → List Kind → Kinds
kinds_with objects locals = record { objects = objects; locals = locals }
