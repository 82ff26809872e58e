-- What is answered of a statement by what was found of its expressions.
use Rattle.std.specs.Prelude.{ℕ, ◌+◌, ◌&&◌, Bool, List, [], ◌∷◌, map, Option, None, Result, is_some, unwrap_or}
use Rattle.std.specs.List.{list_all, filter_map}
use Rattle.aw_cell.specs.declared.cell.Kind.{Kind}
use Rattle.dml_tree.specs.declared.expr.Expr.{Expr}
use Rattle.dml_tree.specs.declared.statement.Statement.{Statement}
use Rattle.dml_kinds.specs.declared.fault.TypeFault.{TypeFault}
use Rattle.dml_kinds.specs.declared.types.ValueType.TheVariants.{Na}
use Rattle.dml_kinds.specs.declared.parts.Part.{Part}
use Rattle.dml_kinds.specs.declared.checking.Measure.{Measure}
use Rattle.dml_kinds.specs.declared.checking.TypedExpr.{TypedExpr}
use Rattle.dml_kinds.specs.Signatures.{Told}
use Rattle.dml_kinds.specs.Meanings.{Names}
use Rattle.dml_kinds.specs.declared.meaning.Use.{Use}
use Rattle.dml_kinds.specs.Names.{named_object}
use Rattle.dml_kinds.specs.Checking.{first_refusal, answer, kinds_of, typed_as}
use Rattle.dml_kinds.specs.Trees.{tree_of}
use Rattle.dml_types.specs.declared.checking.Typed.{Typed}
use Rattle.dml_kinds.specs.inside.Capped.{capped}
use Rattle.dml_kinds.specs.inside.Parts.{part_of}
use Rattle.dml_types.specs.declared.measuring.Found.{Found}
use Rattle.dml_types.specs.Statements.{own_types_fit, own_dimensions_fit}

abbrev pub total_weight : List Found → ℕ
total_weight [] = 0
total_weight (part ∷ parts) = part.expression.weight + total_weight parts

abbrev pub typed_part : Part → Measure
typed_part part = record { kind = unwrap_or part.kind Na; dimensions = unwrap_or part.dimensions []; weight = part.weight }

abbrev pub found_as : Part → Found
found_as part = record { is_typed = is_some part.kind; is_measured = is_some part.dimensions; expression = typed_part part }

abbrev pub found_of : Names → Expr → Found
found_of names e = found_as (part_of names e)

-- expressions with what was found of them, and with their trees
abbrev pub with_trees : Names → List (List ℕ × Kind) → List Expr → List Found → List TypedExpr
with_trees names locals [] parts = []
with_trees names locals (e ∷ es) [] = []
with_trees names locals (e ∷ es) (part ∷ parts) =
    typed_as part.expression (tree_of names e) (kinds_of locals) ∷ with_trees names locals es parts

-- a statement with these names outside of expressions
abbrev pub typed_parts : Names → List (List ℕ × Kind) → List Use → List Expr → List Found → Typed
typed_parts names locals own es parts =
    record { objects = filter_map (λ (needed : Use). named_object names needed.name) own; expressions = with_trees names locals es parts }

module _ (names : Names) (known : Told) where
  abbrev pub types_fit : Statement → List Found → Bool
  types_fit s parts =
      list_all (λ (part : Found). part.is_typed) parts && own_types_fit names known s (map (λ (part : Found). part.expression.kind) parts)

  abbrev pub dimensions_fit : Statement → List Found → Bool
  dimensions_fit s parts =
      list_all (λ (part : Found). part.is_measured) parts
      && own_dimensions_fit names known s (map (λ (part : Found). part.expression.dimensions) parts)

  abbrev pub parts_refusal : Statement → List Found → Option TypeFault
  parts_refusal s parts = first_refusal None (types_fit s parts) (dimensions_fit s parts) (capped (total_weight parts))

  -- what is answered where no name is refused
  abbrev pub parts_answer : List (List ℕ × Kind) → Statement → List Use → List Expr → List Found → Result Typed TypeFault
  parts_answer locals s own es parts = answer (parts_refusal s parts) (typed_parts names locals own es parts)
