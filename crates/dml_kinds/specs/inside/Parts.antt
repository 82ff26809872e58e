-- What is found of an expression before it is accepted.
use Rattle.std.specs.Prelude.{ℕ, nat_le, List, [], length, Option, Some, None, Result, is_some, unwrap_or, if◌then◌else◌}
use Rattle.std.specs.List.{list_all, flat_map}
use Rattle.aw_cell.specs.declared.cell.Kind.{Kind}
use Rattle.dml_tree.specs.declared.expr.Expr.{Expr}
use Rattle.dml_tree.specs.declared.expr.Target.{Target}
use Rattle.dml_kinds.specs.declared.parts.Part.{Part}
use Rattle.dml_kinds.specs.declared.checking.Measure.{Measure}
use Rattle.dml_kinds.specs.declared.checking.TypedExpr.{TypedExpr}
use Rattle.dml_kinds.specs.declared.fault.TypeFault.{TypeFault}
use Rattle.dml_kinds.specs.declared.types.ValueType.TheVariants.{Na}
use Rattle.dml_kinds.specs.Meanings.{Names}
use Rattle.dml_kinds.specs.Names.{targets}
use Rattle.dml_kinds.specs.Types.{type_of}
use Rattle.dml_kinds.specs.FreeDimensions.{first_appearances, target_dimensions, fixes_fit}
use Rattle.dml_kinds.specs.Checking.{expression_weight, first_refusal, answer, formula_kind, formula_refusal, formula_measure, typed_as}
use Rattle.dml_kinds.specs.Trees.{tree_of}
use Rattle.dml_kinds.specs.inside.Capped.{capped}

abbrev pub up_to_six : List ℕ → Option (List ℕ)
up_to_six dimensions = if nat_le (length dimensions) 6 then Some dimensions else None

module _ (names : Names) where
  -- the free dimensions, where they fit
  abbrev pub dimensions_of_targets : List Target → Option (List ℕ)
  dimensions_of_targets targets =
      if list_all (fixes_fit names) targets then up_to_six (first_appearances (flat_map (target_dimensions names) targets)) else None

  abbrev pub part_of : Expr → Part
  part_of e =
      record { kind = type_of names e; dimensions = dimensions_of_targets (targets e); weight = capped (expression_weight names e) }

  -- of a formula
  abbrev pub formula_part : Expr → Part
  formula_part e =
      record { kind = formula_kind (type_of names e); dimensions = dimensions_of_targets (targets e); weight = capped (expression_weight names e) }

  -- where the locals have these kinds
  abbrev pub formula_answer_with : List Kind → Expr → Result TypedExpr TypeFault
  formula_answer_with kinds e = answer (formula_refusal names e) (typed_as (formula_measure names e) (tree_of names e) kinds)

-- what is answered where no name is refused
abbrev pub part_answer : Part → Result Measure TypeFault
part_answer part =
    answer (first_refusal None (is_some part.kind) (is_some part.dimensions) part.weight)
    (record { kind = unwrap_or part.kind Na; dimensions = unwrap_or part.dimensions []; weight = part.weight })
