-- A law: an accepted expression has code, which is accepted.
use Rattle.std.specs.Prelude.{ℕ, ◌≡◌, Bool, true, nat_le, List, [], ◌∷◌, length, Some, Ok}
use Rattle.std.specs.List.{list_all}
use Rattle.aw_cell.specs.declared.cell.Kind.{Kind}
use Rattle.aw_schema.specs.declared.definition.Def.{Def}
use Rattle.aw_schema.specs.declared.definition.DefKind.{DefKind}
use Rattle.aw_schema.specs.declared.definition.DefKind.TheVariants as defined
use Rattle.aw_schema.specs.Definitions.{is_type}
use Rattle.aw_schema.specs.Checking.{AreAccepted}
use Rattle.dml_tree.specs.declared.expr.Expr.{Expr}
use Rattle.dml_kinds.specs.declared.checking.TypedExpr.{TypedExpr}
use Rattle.dml_kinds.specs.declared.signature.Signature.TheVariants as signature
use Rattle.dml_kinds.specs.Signatures.{Told, signature_of}
use Rattle.dml_kinds.specs.Meanings.{names_in}
use Rattle.dml_kinds.specs.Checking.{expression_answer, formula_answer}
use Rattle.dml_exec.specs.declared.kinds.ObjectKind.{ObjectKind}
use Rattle.dml_exec.specs.Verified.{rules_of, IsSound}
use Rattle.dml_compile.specs.Values.{FormulaTree}
use Rattle.dml_compile.specs.FormulasView.{formula_tree, kinds_with}
use Rattle.dml_compile.specs.Objects.{object_kinds}
use Rattle.dml_compile.specs.TreeKinds.{formula_is, AreOfKinds}
use Rattle.dml_compile.specs.inside.Emitted.{tree_code}

-- a variable has at most six dimensions
abbrev pub few_dimensions : DefKind → Bool
few_dimensions (defined.Variable kind dimensions) = nat_le (length dimensions) 6
few_dimensions _ = true

-- what names mean: accepted definitions, locals of types of the language, and formulas of the kinds that are told of them
pub record AreTold (definitions : List Def) (known : Told) (locals : List (List ℕ × Kind)) (formulas : List FormulaTree) : Type 0 where
  pub accepted : AreAccepted definitions
  pub few : list_all (λ (def : Def). few_dimensions def.kind) definitions ≡ true
  pub language : list_all (λ (local : List ℕ × Kind). is_type local.1) locals ≡ true
  pub told : (object : ℕ) (kind : Kind) (dimensions : List ℕ) (weight : ℕ) → signature_of known object ≡ Some (signature.Formula kind dimensions weight) → (is_type kind ≡ true) × (formula_is formulas object kind ≡ true)

-- the code of an expression over these formulas is accepted
abbrev pub HasAcceptedCode : List ObjectKind → List FormulaTree → TypedExpr → Type 0
HasAcceptedCode objects formulas typed =
    IsSound (rules_of (kinds_with objects typed.locals) (length (tree_code formulas (formula_tree 0 typed)).fixes) (tree_code formulas (formula_tree 0 typed)).ops)

-- So is the code of each expression that is accepted, over formulas whose expressions are of their kinds. A formula that is
-- accepted is of its kind, so that it can be noted.
pub record AcceptedExpressionsHaveCode : Type 0 where
  pub expressions : (definitions : List Def) (known : Told) (locals : List (List ℕ × Kind)) (formulas : List FormulaTree) → AreTold definitions known locals formulas → AreOfKinds (object_kinds definitions) formulas
      → (e : Expr) (typed : TypedExpr) → expression_answer (names_in definitions known locals) locals e ≡ Ok typed → HasAcceptedCode (object_kinds definitions) formulas typed
  pub formulas : (definitions : List Def) (known : Told) (earlier : List FormulaTree) → AreTold definitions known [] earlier → AreOfKinds (object_kinds definitions) earlier
      → (e : Expr) (object : ℕ) (typed : TypedExpr) → formula_answer (names_in definitions known []) e ≡ Ok typed
      → HasAcceptedCode (object_kinds definitions) earlier typed × AreOfKinds (object_kinds definitions) (formula_tree object typed ∷ earlier)
