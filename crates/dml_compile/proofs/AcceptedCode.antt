-- The code of accepted expressions is accepted.
use Rattle.std.proofs.Common.{◌≡◌, ◌∙◌, ℕ, Bool as Truth, true, false, List, [], ◌++◌, Option, Some, None, Result, Ok, Err, is_some, refl, sym, ap, subst, ⊎_elim}
use Rattle.std.specs.Prelude.{nat_le, length, unwrap_or, IfErr}
use Rattle.std.specs.Option.{option_or}
use Rattle.std.proofs.lemmas.Bool.{false≢true}
use Rattle.aw_cell.specs.declared.cell.Kind.{Kind}
use Rattle.aw_schema.specs.declared.definition.Def.{Def}
use Rattle.dml_tree.specs.declared.expr.Expr.{Expr}
use Rattle.dml_kinds.specs.declared.checking.TypedExpr.{TypedExpr}
use Rattle.dml_kinds.specs.declared.fault.TypeFault.{TypeFault}
use Rattle.dml_kinds.specs.declared.fault.TypeFault.TheVariants.{Mismatch, Dimensions, TooMany}
use Rattle.dml_kinds.specs.declared.types.ValueType.{ValueType}
use Rattle.dml_kinds.specs.declared.types.ValueType.TheVariants.{Na, Of}
use Rattle.dml_kinds.specs.Signatures.{Told}
use Rattle.dml_kinds.specs.Meanings.{Names, names_in}
use Rattle.dml_kinds.specs.Names.{targets, uses, groups, names_refusal}
use Rattle.dml_kinds.specs.Types.{type_of}
use Rattle.dml_kinds.specs.Trees.{tree_of}
use Rattle.dml_kinds.specs.FreeDimensions.{dimensions_fit}
use Rattle.dml_kinds.specs.Checking.{unless, first_refusal, answer, kinds_of, expression_weight, refusal, typed, expression_answer, formula_kind, formula_refusal, formula_typed, formula_answer}
use Rattle.dml_exec.specs.declared.code.Code.{Code}
use Rattle.dml_exec.specs.declared.fault.CodeFault.{CodeFault}
use Rattle.dml_exec.specs.declared.fault.CodeFault.TheVariants.{Bad, NoMemory}
use Rattle.dml_exec.specs.declared.kinds.Fix.{Fix}
use Rattle.dml_exec.specs.declared.kinds.Kinds.{Kinds}
use Rattle.dml_exec.specs.declared.op.Op.{Op}
use Rattle.dml_exec.specs.declared.kinds.ObjectKind.{ObjectKind}
use Rattle.dml_exec.specs.CodeRuns.{FaultsAt}
use Rattle.dml_exec.specs.Verified.{rules_of, EndsBadly, IsSound}
use Rattle.dml_compile.specs.Values.{FormulaTree}
use Rattle.dml_compile.specs.FormulasView.{wanted_for, formula_tree, kinds_with}
use Rattle.dml_compile.specs.Objects.{object_kinds}
use Rattle.dml_compile.specs.TreeKinds.{tree_is, formula_is, AreOfKinds}
use Rattle.dml_compile.specs.Laws.{AreTold, HasAcceptedCode, AcceptedExpressionsHaveCode}
use Rattle.dml_compile.specs.inside.Emitted.{emitted, formula_code, tree_code}
use Rattle.dml_compile.proofs.SoundTrees.{tree_ops_are_sound}
use Rattle.dml_compile.proofs.TypedTrees.{fits_type, has_type}
use Rattle.dml_compile.proofs.NamedKinds.{itself, names_typed, names_fit}

wanted_fits : (type : ValueType) → fits_type type (wanted_for type) ≡ true
wanted_fits Na = refl
wanted_fits (Of kind) = itself kind

answered : (refused : Option TypeFault) (value given : TypedExpr) → answer refused value ≡ Ok given → (refused ≡ None) × (value ≡ given)
answered (Some fault) value given e = absurd (cc)
answered None value given e = (refl, cc)

none_first : {A : Type 0} (a b : Option A) → option_or a b ≡ None → a ≡ None
none_first None b e = refl
none_first (Some x) b e = absurd (cc)

none_then : {A : Type 0} (a b : Option A) → option_or a b ≡ None → b ≡ None
none_then None b e = e
none_then (Some x) b e = absurd (cc)

holds : (t : Truth) (fault : TypeFault) → unless t fault ≡ None → t ≡ true
holds true fault e = refl
holds false fault e = absurd (cc)

-- what isn't refused has types that fit
types_fit : (of_names : Option TypeFault) (types dimensions : Truth) (weight : ℕ) → first_refusal of_names types dimensions weight ≡ None → types ≡ true
types_fit of_names types dimensions weight e =
    let others : Option TypeFault = option_or (unless dimensions Dimensions) (unless (nat_le weight 4096) TooMany) in
    holds types Mismatch (none_first (unless types Mismatch) others (none_then of_names (option_or (unless types Mismatch) others) e))

type_there : (o : Option ValueType) → is_some o ≡ true → (type : ValueType) × (o ≡ Some type) × (unwrap_or o Na ≡ type)
type_there None e = absurd (false≢true e)
type_there (Some type) e = (type, refl, refl)

formula_there : (o : Option ValueType) → is_some (formula_kind o) ≡ true → (type : ValueType) × (o ≡ Some type) × (unwrap_or (formula_kind o) Na ≡ type)
formula_there None e = absurd (false≢true e)
formula_there (Some Na) e = absurd (false≢true e)
formula_there (Some (Of kind)) e = (Of kind, refl, refl)

module _ (definitions : List Def) (known : Told) (locals : List (List ℕ × Kind)) (formulas : List FormulaTree) (told : AreTold definitions known locals formulas) where
  abbrev names : Names
  names = names_in definitions known locals

  abbrev all_kinds : Kinds
  all_kinds = kinds_with (object_kinds definitions) (kinds_of locals)

  tree_typed : (e : Expr) (type : ValueType) → type_of names e ≡ Some type → tree_is all_kinds (formula_is formulas) (tree_of names e) (wanted_for type) ≡ true
  tree_typed e type is =
      let h = has_type all_kinds (formula_is formulas) names (names_typed all_kinds (formula_is formulas) names (names_fit definitions known locals (formula_is formulas) told.accepted told.few told.language told.told)) e type is in
      h.is (wanted_for type) (wanted_fits type)

  expression_is : (e : Expr) (given : TypedExpr) → expression_answer names locals e ≡ Ok given → tree_is (kinds_with (object_kinds definitions) given.locals) (formula_is formulas) given.tree (wanted_for given.kind) ≡ true
  expression_is e given is =
      let both = answered (refusal names e) (typed names locals e) given is in
      let fit : is_some (type_of names e) ≡ true = types_fit (names_refusal names (uses (targets e)) (groups (targets e))) (is_some (type_of names e)) (dimensions_fit names e) (expression_weight names e) both.0 in
      let there = type_there (type_of names e) fit in
      subst (λ (t : TypedExpr). tree_is (kinds_with (object_kinds definitions) t.locals) (formula_is formulas) t.tree (wanted_for t.kind) ≡ true) both.1
      (subst (λ (t : ValueType). tree_is all_kinds (formula_is formulas) (tree_of names e) (wanted_for t) ≡ true) (sym there.2) (tree_typed e there.0 there.1))

  formula_is_typed : (e : Expr) (given : TypedExpr) → locals ≡ [] → formula_answer names e ≡ Ok given → tree_is (kinds_with (object_kinds definitions) given.locals) (formula_is formulas) given.tree (wanted_for given.kind) ≡ true
  formula_is_typed e given none is =
      let both = answered (formula_refusal names e) (formula_typed names e) given is in
      let fit : is_some (formula_kind (type_of names e)) ≡ true = types_fit (names_refusal names (uses (targets e)) (groups (targets e))) (is_some (formula_kind (type_of names e))) (dimensions_fit names e) (expression_weight names e) both.0 in
      let there = formula_there (type_of names e) fit in
      subst (λ (t : TypedExpr). tree_is (kinds_with (object_kinds definitions) t.locals) (formula_is formulas) t.tree (wanted_for t.kind) ≡ true) both.1
      (subst (λ (t : ValueType). tree_is (kinds_with (object_kinds definitions) []) (formula_is formulas) (tree_of names e) (wanted_for t) ≡ true) (sym there.2)
      (subst (λ (l : List (List ℕ × Kind)). tree_is (kinds_with (object_kinds definitions) (kinds_of l)) (formula_is formulas) (tree_of names e) (wanted_for there.0) ≡ true) none (tree_typed e there.0 there.1)))

-- the code of an expression that is of its kind is accepted
pub code_is_accepted : (objects : List ObjectKind) (formulas : List FormulaTree) (given : TypedExpr) → AreOfKinds objects formulas → tree_is (kinds_with objects given.locals) (formula_is formulas) given.tree (wanted_for given.kind) ≡ true → HasAcceptedCode objects formulas given
code_is_accepted objects formulas given are is = tree_ops_are_sound objects given.locals formulas given.tree (wanted_for given.kind) are is

-- the ops and fixes of a tree that were put behind none
pub made_ops : (formulas : List FormulaTree) (given : TypedExpr) (made start : List Op) (first : List Fix) (wanted : Kind)
    → made ≡ start ++ (emitted (formula_code formulas) given.tree).ops wanted (length start) (length first) → start ≡ [] → first ≡ [] → wanted ≡ wanted_for given.kind
    → made ≡ (tree_code formulas (formula_tree 0 given)).ops
made_ops formulas given made start first wanted e none no_fixes as_wanted =
    e
    ∙ ap (λ (xs : List Op). xs ++ (emitted (formula_code formulas) given.tree).ops wanted (length xs) (length first)) none
    ∙ ap (λ (fs : List Fix). (emitted (formula_code formulas) given.tree).ops wanted 0 (length fs)) no_fixes
    ∙ ap (λ (k : Kind). (emitted (formula_code formulas) given.tree).ops k 0 0) as_wanted

pub made_fixes : (formulas : List FormulaTree) (given : TypedExpr) (made first : List Fix) → made ≡ first ++ (emitted (formula_code formulas) given.tree).fixes → first ≡ []
    → made ≡ (tree_code formulas (formula_tree 0 given)).fixes
made_fixes formulas given made first e none = e ∙ ap (λ (fs : List Fix). fs ++ (emitted (formula_code formulas) given.tree).fixes) none

-- so the one fault of its ops is want of memory
pub never_bad : (objects : List ObjectKind) (formulas : List FormulaTree) (given : TypedExpr) (ops : List Op) (fixes : List Fix) (result : Result Code CodeFault)
    → ops ≡ (tree_code formulas (formula_tree 0 given)).ops → fixes ≡ (tree_code formulas (formula_tree 0 given)).fixes
    → IfErr result (FaultsAt (rules_of (kinds_with objects given.locals) (length fixes) ops))
    → IfErr result (λ fault. HasAcceptedCode objects formulas given → fault ≡ NoMemory)
never_bad objects formulas given ops fixes (Ok code) same_ops same_fixes faults = tt
never_bad objects formulas given ops fixes (Err NoMemory) same_ops same_fixes faults = λ has. refl
never_bad objects formulas given ops fixes (Err (Bad at)) same_ops same_fixes faults = λ has.
    let sound : IsSound (rules_of (kinds_with objects given.locals) (length fixes) ops) =
    subst (λ (xs : List Op). IsSound (rules_of (kinds_with objects given.locals) (length fixes) xs)) (sym same_ops)
    (subst (λ (fs : List Fix). IsSound (rules_of (kinds_with objects given.locals) (length fs) (tree_code formulas (formula_tree 0 given)).ops)) (sym same_fixes) has) in
    absurd (⊎_elim (sound.ops at) (λ ends. sound.end (subst (EndsBadly (rules_of (kinds_with objects given.locals) (length fixes) ops)) ends.end ends)) faults.here)

formula_locals : (definitions : List Def) (known : Told) (e : Expr) (given : TypedExpr) → formula_answer (names_in definitions known []) e ≡ Ok given → given.locals ≡ []
formula_locals definitions known e given is =
    let both = answered (formula_refusal (names_in definitions known []) e) (formula_typed (names_in definitions known []) e) given is in
    sym (ap (λ (t : TypedExpr). t.locals) both.1)

pub accepted-have-code : AcceptedExpressionsHaveCode
accepted-have-code = record {
  expressions = λ definitions known locals formulas told are e given is.
      code_is_accepted (object_kinds definitions) formulas given are (expression_is definitions known locals formulas told e given is);
  formulas = λ definitions known earlier told are e object given is.
      let typed = formula_is_typed definitions known [] earlier told e given refl is in
      let own = subst (λ (l : List Kind). tree_is (kinds_with (object_kinds definitions) l) (formula_is earlier) given.tree (wanted_for given.kind) ≡ true) (formula_locals definitions known e given is) typed in
      (code_is_accepted (object_kinds definitions) earlier given are typed, (own, are));
}
