-- The expressions of an accepted statement lie over the dimensions of their trees.
use Rattle.std.specs.Prelude.{ℕ, ◌≡◌, nat_le, List, [], ◌∷◌, ◌++◌, map, All, Option, Some, None, Result, Ok, Err, IfOk}
use Rattle.std.specs.Option.{option_map, option_or}
use Rattle.std.proofs.Common.{◌∙◌, ap, sym, refl, subst, ⊎_elim}
use Rattle.std.proofs.lemmas.Grind.{flat_map-append}
use Rattle.std.proofs.lemmas.List.Elements.{All-nil, All-cons}
use Rattle.aw_cell.specs.declared.cell.Kind.{Kind}
use Rattle.dml_tree.specs.Weight.{weight_of_all}
use Rattle.dml_tree.specs.declared.expr.Expr.{Expr}
use Rattle.dml_tree.specs.declared.statement.Statement.{Statement}
use Rattle.dml_kinds.specs.declared.checking.TypedExpr.{TypedExpr}
use Rattle.dml_kinds.specs.declared.fault.TypeFault.{TypeFault}
use Rattle.dml_kinds.specs.declared.fault.TypeFault.TheVariants.{Unknown, WrongKind, Repeat, Mismatch, Dimensions, TooMany}
use Rattle.dml_kinds.specs.declared.meaning.Use.{Use}
use Rattle.dml_kinds.specs.Signatures.{Told}
use Rattle.dml_kinds.specs.Meanings.{Names, weight_named}
use Rattle.dml_kinds.specs.Names.{targets, targets_of_all, uses, value_uses, groups, first_of, unknown, wrong_kind, repeated, names_refusal}
use Rattle.dml_kinds.specs.FreeDimensions.{first_appearances}
use Rattle.dml_kinds.specs.TreeDimensions.{tree_dimensions}
use Rattle.dml_kinds.specs.Checking.{unless, answer, IsAnswer, typed}
use Rattle.dml_kinds.proofs.CallerLemmas.{same_dimensions}
use Rattle.dml_types.specs.declared.checking.Typed.{Typed}
use Rattle.dml_types.specs.Statements.{own_uses, own_group, expressions}
use Rattle.dml_types.specs.Checking.{typed_statement, types_fit, statement_dimensions_fit, statement_refusal, statement_answer}

none_first : {A : Type 0} (a b : Option A) → option_or a b ≡ None → a ≡ None
none_first None b e = refl
none_first (Some x) b e = absurd (cc)

none_then : {A : Type 0} (a b : Option A) → option_or a b ≡ None → b ≡ None
none_then None b e = e
none_then (Some x) b e = absurd (cc)

map_none : {A B : Type 0} (f : A → B) (o : Option A) → option_map f o ≡ None → o ≡ None
map_none f None e = refl
map_none f (Some x) e = absurd (cc)

abbrev HasDimensions : TypedExpr → Type 0
HasDimensions one = one.dimensions ≡ first_appearances (tree_dimensions one.tree)

abbrev HaveDimensions : Typed → Type 0
HaveDimensions statement = All HasDimensions statement.expressions

module _ (names : Names) where
  abbrev wrong : List Use → Option (List ℕ)
  wrong all = first_of (wrong_kind names) all

  front : (one more : List Use) → wrong (one ++ more) ≡ None → wrong one ≡ None
  front [] more e = refl
  front (x ∷ one) more e =
      ap (λ (first : Option (List ℕ)). option_or first (wrong one)) (none_first (wrong_kind names x) (wrong (one ++ more)) e)
      ∙ front one more (none_then (wrong_kind names x) (wrong (one ++ more)) e)

  behind : (one more : List Use) → wrong (one ++ more) ≡ None → wrong more ≡ None
  behind [] more e = e
  behind (x ∷ one) more e = behind one more (none_then (wrong_kind names x) (wrong (one ++ more)) e)

  module _ (locals : List (List ℕ × Kind)) where
    each_has : (es : List Expr) → wrong (uses (targets_of_all es)) ≡ None → All HasDimensions (map (typed names locals) es)
    each_has [] none = All-nil HasDimensions
    each_has (e ∷ es) none =
        let parts : wrong (uses (targets e) ++ uses (targets_of_all es)) ≡ None = ap wrong (sym (flat_map-append value_uses (targets e) (targets_of_all es))) ∙ none in
        All-cons HasDimensions (typed names locals e) (map (typed names locals) es)
        (same_dimensions names e (front (uses (targets e)) (uses (targets_of_all es)) parts))
        (each_has es (behind (uses (targets e)) (uses (targets_of_all es)) parts))

    named_right : (needed : List Use) (all : List (List (List ℕ))) → names_refusal names needed all ≡ None → wrong needed ≡ None
    named_right needed all none =
        map_none WrongKind (wrong needed)
        (none_first (option_map WrongKind (wrong needed)) (option_map Repeat (first_of (repeated names) all))
        (none_then (option_map Unknown (first_of (unknown names) needed)) (option_or (option_map WrongKind (wrong needed)) (option_map Repeat (first_of (repeated names) all))) none))

    module _ (known : Told) (s : Statement) where
      abbrev of_names : Option TypeFault
      of_names = names_refusal names (own_uses s ++ uses (targets_of_all (expressions names s))) (own_group s ∷ groups (targets_of_all (expressions names s)))

      abbrev of_others : Option TypeFault
      of_others =
          option_or (unless (types_fit names known s (expressions names s)) Mismatch)
          (option_or (unless (statement_dimensions_fit names known s (expressions names s)) Dimensions)
          (unless (nat_le (weight_of_all (weight_named names) (expressions names s)) 4096) TooMany))

      told : (t : Typed) (refused : Option TypeFault) → refused ≡ statement_refusal names known s → Ok t ≡ answer refused (typed_statement names locals s) → HaveDimensions t
      told t (Some fault) is given = absurd (cc)
      told t None is given =
          let same : t ≡ typed_statement names locals s = cc in
          let none : of_names ≡ None = none_first of_names of_others (sym is) in
          subst HaveDimensions (sym same)
          (each_has (expressions names s)
          (behind (own_uses s) (uses (targets_of_all (expressions names s)))
          (named_right (own_uses s ++ uses (targets_of_all (expressions names s))) (own_group s ∷ groups (targets_of_all (expressions names s))) none)))

      pub statement_dimensions : (result : Result Typed TypeFault) → IsAnswer result (statement_answer names known locals s) → IfOk result (λ (it : Typed). All (λ (one : TypedExpr). one.dimensions ≡ first_appearances (tree_dimensions one.tree)) it.expressions)
      statement_dimensions (Err fault) given = tt
      statement_dimensions (Ok t) given = ⊎_elim (λ short. absurd (cc)) (λ same. told t (statement_refusal names known s) refl same) given
