-- Whether an expression is accepted, and what refuses it first.
use Rattle.std.specs.Prelude.{ℕ, ◌≡◌, ◌⊎◌, Bool, nat_le, List, [], map, Option, Some, None, Result, Ok, Err, is_some, unwrap_or, if◌then◌else◌}
use Rattle.std.specs.Option.{option_or}
use Rattle.aw_cell.specs.declared.cell.Kind.{Kind}
use Rattle.dml_tree.specs.Weight.{weight}
use Rattle.dml_tree.specs.declared.expr.Expr.{Expr}
use Rattle.dml_kinds.specs.declared.fault.TypeFault.{TypeFault}
use Rattle.dml_kinds.specs.declared.fault.TypeFault.TheVariants.{Mismatch, Dimensions, TooMany, NoMemory}
use Rattle.dml_kinds.specs.declared.types.ValueType.{ValueType}
use Rattle.dml_kinds.specs.declared.types.ValueType.TheVariants.{Na, Of}
use Rattle.dml_kinds.specs.declared.checking.Measure.{Measure}
use Rattle.dml_kinds.specs.declared.checking.TypedExpr.{TypedExpr}
use Rattle.dml_kinds.specs.declared.tree.Tree.{Tree}
use Rattle.dml_kinds.specs.Meanings.{Names, weight_named}
use Rattle.dml_kinds.specs.Names.{targets, uses, groups, names_refusal}
use Rattle.dml_kinds.specs.Types.{type_of}
use Rattle.dml_kinds.specs.FreeDimensions.{free_dimensions, dimensions_fit}
use Rattle.dml_kinds.specs.Trees.{tree_of}

abbrev pub unless : Bool → TypeFault → Option TypeFault
unless holds fault = if holds then None else Some fault

-- The first that applies decides: what refuses the names, types that don't fit, dimensions that don't fit, and a weight over
-- 4,096.
abbrev pub first_refusal : Option TypeFault → Bool → Bool → ℕ → Option TypeFault
first_refusal of_names types_fit dimensions_fit weight =
    option_or of_names
    (option_or (unless types_fit Mismatch) (option_or (unless dimensions_fit Dimensions) (unless (nat_le weight 4096) TooMany)))

-- what isn't refused has this value
abbrev pub answer : {X : Type 0} → Option TypeFault → X → Result X TypeFault
answer (Some fault) value = Err fault
answer None value = Ok value

-- this answer, or want of memory
abbrev pub IsAnswer : {X : Type 0} → Result X TypeFault → Result X TypeFault → Type 0
IsAnswer result given = (result ≡ Err NoMemory) ⊎ (result ≡ given)

-- a formula isn't of the type of NA alone
abbrev pub formula_kind : Option ValueType → Option ValueType
formula_kind None = None
formula_kind (Some Na) = None
formula_kind (Some (Of kind)) = Some (Of kind)

-- the kinds of locals
abbrev pub kinds_of : List (List ℕ × Kind) → List Kind
kinds_of locals = map (λ (local : List ℕ × Kind). local.1) locals

-- an expression that was measured, with its tree and the kinds of its locals
abbrev pub typed_as : Measure → Tree → List Kind → TypedExpr
typed_as m tree locals =
    record { kind = m.kind; dimensions = m.dimensions; weight = m.weight; tree = tree; locals = locals }

module _ (names : Names) where
  abbrev pub expression_weight : Expr → ℕ
  expression_weight e = weight (weight_named names) e

  -- the type, which is there in an accepted expression, the free dimensions in order of first appearance, and the weight
  abbrev pub measure : Expr → Measure
  measure e =
      record { kind = unwrap_or (type_of names e) Na; dimensions = free_dimensions names e; weight = expression_weight e }

  abbrev pub refusal : Expr → Option TypeFault
  refusal e =
      first_refusal (names_refusal names (uses (targets e)) (groups (targets e))) (is_some (type_of names e)) (dimensions_fit names e)
      (expression_weight e)

  abbrev pub measure_answer : Expr → Result Measure TypeFault
  measure_answer e = answer (refusal e) (measure e)

  -- with these locals
  abbrev pub typed : List (List ℕ × Kind) → Expr → TypedExpr
  typed locals e = typed_as (measure e) (tree_of names e) (kinds_of locals)

  abbrev pub expression_answer : List (List ℕ × Kind) → Expr → Result TypedExpr TypeFault
  expression_answer locals e = answer (refusal e) (typed locals e)

  -- ---- formulas

  abbrev pub formula_refusal : Expr → Option TypeFault
  formula_refusal e =
      first_refusal (names_refusal names (uses (targets e)) (groups (targets e))) (is_some (formula_kind (type_of names e))) (dimensions_fit names e)
      (expression_weight e)

  abbrev pub formula_measure : Expr → Measure
  formula_measure e =
      record { kind = unwrap_or (formula_kind (type_of names e)) Na; dimensions = free_dimensions names e; weight = expression_weight e }

  abbrev pub formula_measure_answer : Expr → Result Measure TypeFault
  formula_measure_answer e = answer (formula_refusal e) (formula_measure e)

  -- a formula has no locals
  abbrev pub formula_typed : Expr → TypedExpr
  formula_typed e = typed_as (formula_measure e) (tree_of names e) []

  abbrev pub formula_answer : Expr → Result TypedExpr TypeFault
  formula_answer e = answer (formula_refusal e) (formula_typed e)
