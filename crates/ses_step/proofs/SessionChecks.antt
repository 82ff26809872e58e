-- What a statement's check answers in a session, which has no locals and no texts of objects.
use Rattle.std.specs.Prelude.{ℕ, suc, ◌≡◌, ◌==◌, ◌||◌, ◌&&◌, not, Bool, true, false, cond, nat_le, List, [], ◌∷◌, ◌++◌, map, filter, All, Option, Some, None, Result, Ok, Err, IfOk}
use Rattle.std.specs.List.{list_all}
use Rattle.std.specs.Option.{option_or}
use Rattle.std.proofs.Common.{◌∙◌, ap, sym, refl, subst, arith, ⊎_elim}
use Rattle.std.proofs.lemmas.Bool.{and_parts}
use Rattle.std.proofs.lemmas.List.Elements.{All-nil, All-cons}
use Rattle.aw_cell.specs.declared.cell.Kind.{Kind}
use Rattle.aw_schema.specs.declared.definition.Def.{Def}
use Rattle.dml_tree.specs.Weight.{weight_of_all}
use Rattle.dml_tree.specs.declared.expr.Expr.{Expr}
use Rattle.dml_tree.specs.declared.expr.Target.{Target}
use Rattle.dml_tree.specs.declared.statement.Statement.{Statement}
use Rattle.dml_tree.specs.declared.statement.Statement.TheVariants as statement
use Rattle.dml_kinds.specs.declared.checking.TypedExpr.{TypedExpr}
use Rattle.dml_kinds.specs.declared.fault.TypeFault.{TypeFault}
use Rattle.dml_kinds.specs.declared.fault.TypeFault.TheVariants.{Mismatch, Dimensions, TooMany}
use Rattle.dml_kinds.specs.Checking.{IsAnswer, unless, answer, typed as typed_in}
use Rattle.dml_kinds.specs.FreeDimensions.{is_among, is_fixed, target_dimensions, free_dimensions, first_appearances, fixes_fit, dimensions_fit}
use Rattle.dml_kinds.specs.Meanings.{Names, names_in, dimensions_named, weight_named}
use Rattle.dml_kinds.specs.Names.{targets_of_all, uses, groups, names_refusal}
use Rattle.dml_kinds.specs.Signatures.{Told}
use Rattle.dml_kinds.specs.TreeDimensions.{tree_dimensions}
use Rattle.dml_types.specs.declared.checking.Typed.{Typed}
use Rattle.dml_types.specs.Checking.{statement_answer, statement_refusal, types_fit, statement_dimensions_fit, typed_statement}
use Rattle.dml_types.specs.Statements.{own_uses, own_group, expressions, own_dimensions_fit}
use Rattle.ses_value.specs.Expressions.{IsOfALine}
use Rattle.ses_step.specs.inside.Effects.{IsOver, AreOver}
use Rattle.ses_step.specs.Refusing.{checked}
use Rattle.ses_step.proofs.NamedFormulas.{as-named}

pub checked_of : (definitions : List Def) (statement : Statement) (known : Told) (locals : List (List ℕ × Kind)) (result : Result Typed TypeFault)
    → IsAnswer result (statement_answer (names_in definitions known locals) known locals statement) → known ≡ [] → locals ≡ [] → IsAnswer result (checked definitions statement)
checked_of definitions statement known locals result is no_known no_locals =
    subst (λ (none : Told). IsAnswer result (statement_answer (names_in definitions none []) none [] statement)) no_known
    (subst (λ (none : List (List ℕ × Kind)). IsAnswer result (statement_answer (names_in definitions known none) known none statement)) no_locals is)

-- ---- an accepted statement

none_first : {A : Type 0} (a b : Option A) → option_or a b ≡ None → a ≡ None
none_first None b e = refl
none_first (Some x) b e = absurd (cc)

none_then : {A : Type 0} (a b : Option A) → option_or a b ≡ None → b ≡ None
none_then None b e = e
none_then (Some x) b e = absurd (cc)

holds-unless : (b : Bool) (fault : TypeFault) → unless b fault ≡ None → b ≡ true
holds-unless true fault none = refl
holds-unless false fault none = absurd (cc)

module _ (definitions : List Def) where
  abbrev names : Names
  names = names_in definitions [] []

  abbrev HasDimensions : TypedExpr → Type 0
  HasDimensions one = one.dimensions ≡ first_appearances (tree_dimensions one.tree)

  module _ (it : Statement) where
    told : (typed : Typed) (refused : Option TypeFault) → statement_refusal names [] it ≡ refused → answer refused (typed_statement names [] it) ≡ Ok typed
        → (statement_refusal names [] it ≡ None) × (typed ≡ typed_statement names [] it)
    told typed (Some fault) is given = absurd (cc)
    told typed None is given = (is, cc)

    -- it isn't refused, and is what its parts are
    pub accepted : (typed : Typed) → checked definitions it ≡ Ok typed → (statement_refusal names [] it ≡ None) × (typed ≡ typed_statement names [] it)
    accepted typed is = told typed (statement_refusal names [] it) refl is

    pub typed-expressions : (typed : Typed) → checked definitions it ≡ Ok typed → typed.expressions ≡ map (typed_in names []) (expressions names it)
    typed-expressions typed is = ap (λ (one : Typed). one.expressions) (accepted typed is).1

  -- ---- each of its expressions is one of a line

  lines_among : (all : List Expr) → All HasDimensions (map (typed_in names []) all) → All IsOfALine (map (typed_in names []) all)
  lines_among [] have = All-nil IsOfALine
  lines_among (e ∷ all) have =
      All-cons IsOfALine (typed_in names [] e) (map (typed_in names []) all)
      (record { locals = refl; dimensions = have 0 (typed_in names [] e) (omega arith); formulas = as-named definitions e })
      (lines_among all (λ k d less. have (suc k) d (omega (arith, less))))

  of_a_line : (it : Statement) (typed : Typed) → checked definitions it ≡ Ok typed → All HasDimensions typed.expressions → All IsOfALine typed.expressions
  of_a_line it typed is have =
      let same = typed-expressions it typed is in
      subst (λ (all : List TypedExpr). All IsOfALine all) (sym same)
      (lines_among (expressions names it) (subst (λ (all : List TypedExpr). All HasDimensions all) same have))

  pub lines_checked : (it : Statement) (result : Result Typed TypeFault) → IsAnswer result (checked definitions it) → IfOk result (λ typed. All HasDimensions typed.expressions) → IfOk result (λ typed. All IsOfALine typed.expressions)
  lines_checked it (Err fault) is have = tt
  lines_checked it (Ok typed) is have = ⊎_elim (λ short. absurd (cc)) (λ same. of_a_line it typed (sym same) have) is

  -- ---- what is assigned lies over the dimensions of its target

  among-more : (one : ℕ) (fewer dimensions : List ℕ) (d : ℕ) (kept : Bool) → (is_among fewer d ≡ true → is_among dimensions d ≡ true)
      → is_among (cond kept (one ∷ fewer) fewer) d ≡ true → is_among (one ∷ dimensions) d ≡ true
  among-more one fewer dimensions d true later is = by (one == d) is
    where
      by : (same : Bool) → (same || is_among fewer d) ≡ true → (same || is_among dimensions d) ≡ true
      by true is = refl
      by false is = later is
  among-more one fewer dimensions d false later is = by (one == d)
    where
      by : (same : Bool) → (same || is_among dimensions d) ≡ true
      by true = refl
      by false = later is

  among-filtered : (p : ℕ → Bool) (dimensions : List ℕ) (d : ℕ) → is_among (filter p dimensions) d ≡ true → is_among dimensions d ≡ true
  among-filtered p [] d is = is
  among-filtered p (one ∷ dimensions) d is = among-more one (filter p dimensions) dimensions d (p one) (among-filtered p dimensions d) is

  all-filtered : (p : ℕ → Bool) (dimensions free : List ℕ) → list_all (is_among (filter p dimensions)) free ≡ true → list_all (is_among dimensions) free ≡ true
  all-filtered p dimensions [] is = refl
  all-filtered p dimensions (d ∷ free) is =
      let parts = and_parts (is_among (filter p dimensions) d) (list_all (is_among (filter p dimensions)) free) is in
      ap (λ (b : Bool). b && list_all (is_among dimensions) free) (among-filtered p dimensions d parts.0) ∙ all-filtered p dimensions free parts.1

  fits-over : (to : Target) (e : Expr) → statement_refusal names [] (statement.Assign to e) ≡ None → IsOver definitions to (typed_in names [] e)
  fits-over to e none =
      let it : Statement = statement.Assign to e in
      let of_names = names_refusal names (own_uses it ++ uses (targets_of_all (e ∷ []))) (own_group it ∷ groups (targets_of_all (e ∷ []))) in
      let heavy = unless (nat_le (weight_of_all (weight_named names) (e ∷ [])) 4096) TooMany in
      let dims = unless (statement_dimensions_fit names [] it (e ∷ [])) Dimensions in
      let types = unless (types_fit names [] it (e ∷ [])) Mismatch in
      let others : option_or types (option_or dims heavy) ≡ None = none_then of_names (option_or types (option_or dims heavy)) none in
      let dims_none : dims ≡ None = none_first dims heavy (none_then types (option_or dims heavy) others) in
      let fit = holds-unless (statement_dimensions_fit names [] it (e ∷ [])) Dimensions dims_none in
      let own = (and_parts (list_all (dimensions_fit names) (e ∷ [])) (own_dimensions_fit names [] it (free_dimensions names e ∷ [])) fit).1 in
      let target = (and_parts (fixes_fit names to) (list_all (list_all (is_among (target_dimensions names to))) (free_dimensions names e ∷ [])) own).1 in
      let all = (and_parts (list_all (is_among (target_dimensions names to)) (free_dimensions names e)) true target).0 in
      all-filtered (λ d. not (is_fixed names to.fixes d)) (dimensions_named names to.name) (free_dimensions names e) all

  over-checked : (it : Statement) (typed : Typed) → checked definitions it ≡ Ok typed → AreOver definitions it typed.expressions
  over-checked (statement.Assign to e) typed is =
      let parts = accepted (statement.Assign to e) typed is in
      subst (λ (all : List TypedExpr). All (IsOver definitions to) all) (sym (typed-expressions (statement.Assign to e) typed is))
      (All-cons (IsOver definitions to) (typed_in names [] e) [] (fits-over to e parts.0) (All-nil (IsOver definitions to)))
  over-checked (statement.Release l) typed is = tt
  over-checked (statement.Update l) typed is = tt
  over-checked (statement.Attach mode) typed is = tt
  over-checked statement.Detach typed is = tt
  over-checked statement.Commit typed is = tt
  over-checked (statement.Acquire keep fresh same) typed is = tt
  over-checked (statement.Resync l) typed is = tt
  over-checked (statement.Revert l) typed is = tt
  over-checked (statement.Add dimension l place) typed is = tt
  over-checked (statement.Delete dimension l) typed is = tt
  over-checked (statement.Move dimension l place) typed is = tt
  over-checked (statement.Rename dimension was text) typed is = tt
  over-checked (statement.Show e) typed is = tt
  over-checked (statement.Report e) typed is = tt
  over-checked (statement.Limit name how what) typed is = tt
  over-checked (statement.Aggregate variable map) typed is = tt
  over-checked (statement.Allocate source basis target map) typed is = tt
  over-checked (statement.Call program arguments) typed is = tt

  pub over_checked : (it : Statement) (result : Result Typed TypeFault) → IsAnswer result (checked definitions it) → IfOk result (λ typed. AreOver definitions it typed.expressions)
  over_checked it (Err fault) is = tt
  over_checked it (Ok typed) is = ⊎_elim (λ short. absurd (cc)) (λ same. over-checked it typed (sym same)) is
