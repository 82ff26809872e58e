-- What is answered of a statement by what was found of its expressions.
use Rattle.std.specs.Prelude.{ℕ, ◌≡◌, ◌+◌, ◌≤◌, ◌<◌, ◌&&◌, Bool, true, false, nat_le, List, [], ◌∷◌, ◌++◌, map, length, Option, Some, None, Err, is_some, unwrap_or, if◌then◌else◌}
use Rattle.std.specs.List.{list_all, filter_map, cons_option}
use Rattle.std.specs.Option.{option_or}
use Rattle.std.proofs.Common.{◌∙◌, ap, sym, refl, arith, inl, inr, append-nil}
use Rattle.std.proofs.lemmas.Bool.{cases_lt, and_parts, lt-leb, leb-true, true≢false, false≢true}
use Rattle.std.proofs.lemmas.List.Folds.{list_all-map}
use Rattle.aw_cell.specs.declared.cell.Kind.{Kind}
use Rattle.dml_tree.specs.Weight.{weight_of_all}
use Rattle.dml_tree.specs.declared.expr.Expr.{Expr}
use Rattle.dml_tree.specs.declared.statement.Statement.{Statement}
use Rattle.dml_kinds.specs.declared.fault.TypeFault.{TypeFault}
use Rattle.dml_kinds.specs.declared.fault.TypeFault.TheVariants.{Mismatch, Dimensions, TooMany}
use Rattle.dml_kinds.specs.declared.types.ValueType.{ValueType}
use Rattle.dml_kinds.specs.declared.types.ValueType.TheVariants.{Na}
use Rattle.dml_kinds.specs.declared.checking.Measure.{Measure}
use Rattle.dml_kinds.specs.declared.checking.TypedExpr.{TypedExpr}
use Rattle.dml_kinds.specs.declared.meaning.Use.{Use}
use Rattle.dml_kinds.specs.Signatures.{Told}
use Rattle.dml_kinds.specs.Meanings.{Names, weight_named}
use Rattle.dml_kinds.specs.Names.{targets, targets_of_all, uses, groups, names_refusal, named_object}
use Rattle.dml_kinds.specs.Types.{type_of}
use Rattle.dml_kinds.specs.FreeDimensions.{fixes_fit, free_dimensions, dimensions_fit as expression_fits}
use Rattle.dml_kinds.specs.Checking.{first_refusal, answer, unless, expression_weight, kinds_of, typed, typed_as}
use Rattle.dml_kinds.specs.Trees.{tree_of}
use Rattle.dml_kinds.specs.inside.Capped.{capped}
use Rattle.dml_kinds.specs.inside.Parts.{up_to_six}
use Rattle.dml_types.specs.declared.checking.Typed.{Typed}
use Rattle.dml_types.specs.Statements.{own_uses, own_group, expressions, own_types_fit, own_dimensions_fit}
use Rattle.dml_types.specs.Checking.{typed_statement, are_typed, refusal_with, statement_answer, statement_dimensions_fit, types_fit as all_types_fit}
use Rattle.dml_types.specs.declared.measuring.Found.{Found}
use Rattle.dml_types.specs.inside.Parts.{total_weight, typed_part, with_trees, typed_parts, found_of, types_fit, dimensions_fit, parts_refusal, parts_answer}

no_truth : {X : Type 0} → false ≡ true → X
no_truth e = absurd (false≢true e)

-- ---- one expression

few : (b : Bool) (free : List ℕ) → is_some (if b then Some free else None) ≡ b
few true free = refl
few false free = refl

fits_same : (fixed : Bool) (free : List ℕ) → is_some (if fixed then up_to_six free else None) ≡ (fixed && nat_le (length free) 6)
fits_same true free = few (nat_le (length free) 6) free
fits_same false free = refl

free_few : (b : Bool) (free : List ℕ) → b ≡ true → (if b then Some free else None) ≡ Some free
free_few true free e = refl
free_few false free e = no_truth e

free_one : (fixed : Bool) (free : List ℕ) → (fixed && nat_le (length free) 6) ≡ true → (if fixed then up_to_six free else None) ≡ Some free
free_one true free e = free_few (nat_le (length free) 6) free e
free_one false free e = no_truth e

kind_one : (kind : Option ValueType) (rest : List ValueType) → is_some kind ≡ true → unwrap_or kind Na ∷ rest ≡ cons_option kind rest
kind_one (Some kind) rest e = refl
kind_one None rest e = no_truth e

typed_one : (kind : Option ValueType) (found : Option (List ℕ)) (free : List ℕ) (c w : ℕ) → found ≡ Some free → c ≡ w → typed_part (record { kind = kind; dimensions = found; weight = c }) ≡ record { kind = unwrap_or kind Na; dimensions = free; weight = w }
typed_one kind found free c w there same =
    ap (λ (d : Option (List ℕ)). typed_part (record { kind = kind; dimensions = d; weight = c })) there
    ∙ ap (λ (v : ℕ). typed_part (record { kind = kind; dimensions = Some free; weight = v })) same

capped_sum : (w t v : ℕ) → capped t ≡ capped v → capped (capped w + t) ≡ capped (w + v)
capped_sum w t v same = omega (arith, same)

light : (w : ℕ) → w ≤ 4096 → capped w ≡ w
light w small = omega (arith, small)

above : (w : ℕ) → 4096 < w → nat_le w 4096 ≡ false
above w great = lt-leb w 4096 great

light_same : (w : ℕ) → nat_le (capped w) 4096 ≡ nat_le w 4096
light_same w =
    elim (cases_lt 4096 w) [
      | inl great ↦ above (capped w) (omega (arith, great)) ∙ sym (above w great)
      | inr small ↦ ap (λ c. nat_le c 4096) (light w small)
    ]

is_light : (w : ℕ) → nat_le w 4096 ≡ true → w ≤ 4096
is_light w e = leb-true w 4096 e

under : (b x y : Bool) → (b ≡ true → x ≡ y) → (b && x) ≡ (b && y)
under true x y same = same refl
under false x y same = refl

unless_none : (b : Bool) (fault : TypeFault) → unless b fault ≡ None → b ≡ true
unless_none true fault e = refl
unless_none false fault e = absurd (true≢false (ap is_some e))

-- what isn't refused has dimensions that fit, and a weight up to 4,096
accepted : (types dimensions : Bool) (w : ℕ) → first_refusal None types dimensions w ≡ None → (dimensions ≡ true) × (nat_le w 4096 ≡ true)
accepted true true w e = (refl, unless_none (nat_le w 4096) TooMany e)
accepted true false w e = absurd (true≢false (ap is_some e))
accepted false dimensions w e = absurd (true≢false (ap is_some e))

-- ---- all of them

module _ (names : Names) where
  kinds_same : (es : List Expr) → are_typed names es ≡ true → map (λ (part : Found). part.expression.kind) (map (found_of names) es) ≡ filter_map (type_of names) es
  kinds_same [] fit = refl
  kinds_same (e ∷ es) fit =
      let both = and_parts (is_some (type_of names e)) (are_typed names es) fit in
      ap (λ (rest : List ValueType). unwrap_or (type_of names e) Na ∷ rest) (kinds_same es both.1)
      ∙ kind_one (type_of names e) (filter_map (type_of names) es) both.0

  typed_same : (es : List Expr) → list_all (λ (part : Found). part.is_typed) (map (found_of names) es) ≡ are_typed names es
  typed_same es = list_all-map (λ (part : Found). part.is_typed) (found_of names) es

  measured_same : (es : List Expr) → list_all (λ (part : Found). part.is_measured) (map (found_of names) es) ≡ list_all (expression_fits names) es
  measured_same [] = refl
  measured_same (e ∷ es) =
      ap (λ b. b && list_all (λ (part : Found). part.is_measured) (map (found_of names) es))
      (fits_same (list_all (fixes_fit names) (targets e)) (free_dimensions names e))
      ∙ ap (λ b. expression_fits names e && b) (measured_same es)

  free_same : (es : List Expr) → list_all (expression_fits names) es ≡ true → map (λ (part : Found). part.expression.dimensions) (map (found_of names) es) ≡ map (free_dimensions names) es
  free_same [] fit = refl
  free_same (e ∷ es) fit =
      let both = and_parts (expression_fits names e) (list_all (expression_fits names) es) fit in
      ap (λ (free : Option (List ℕ)). unwrap_or free [] ∷ map (λ (part : Found). part.expression.dimensions) (map (found_of names) es))
      (free_one (list_all (fixes_fit names) (targets e)) (free_dimensions names e) both.0)
      ∙ ap (λ rest. free_dimensions names e ∷ rest) (free_same es both.1)

  total_same : (es : List Expr) → capped (total_weight (map (found_of names) es)) ≡ capped (weight_of_all (weight_named names) es)
  total_same [] = refl
  total_same (e ∷ es) = capped_sum (expression_weight names e) _ _ (total_same es)

  typed_all : (locals : List (List ℕ × Kind)) (es : List Expr) → weight_of_all (weight_named names) es ≤ 4096 → list_all (expression_fits names) es ≡ true → with_trees names locals es (map (found_of names) es) ≡ map (typed names locals) es
  typed_all locals [] small fit = refl
  typed_all locals (e ∷ es) small fit =
      let both = and_parts (expression_fits names e) (list_all (expression_fits names) es) fit in
      ap (λ (first : Measure). typed_as first (tree_of names e) (kinds_of locals) ∷ with_trees names locals es (map (found_of names) es))
      (typed_one (type_of names e) _ (free_dimensions names e) _ (expression_weight names e)
      (free_one (list_all (fixes_fit names) (targets e)) (free_dimensions names e) both.0)
      (light (expression_weight names e) (omega (arith, small))))
      ∙ ap (λ rest. typed names locals e ∷ rest) (typed_all locals es (omega (arith, small)) both.1)

  module _ (known : Told) (s : Statement) where
    types_same : (es : List Expr) → types_fit names known s (map (found_of names) es) ≡ all_types_fit names known s es
    types_same es =
        ap (λ b. b && own_types_fit names known s (map (λ (part : Found). part.expression.kind) (map (found_of names) es))) (typed_same es)
        ∙ under (are_typed names es) _ _ (λ fit. ap (own_types_fit names known s) (kinds_same es fit))

    dimensions_same : (es : List Expr) → dimensions_fit names known s (map (found_of names) es) ≡ statement_dimensions_fit names known s es
    dimensions_same es =
        ap (λ b. b && own_dimensions_fit names known s (map (λ (part : Found). part.expression.dimensions) (map (found_of names) es))) (measured_same es)
        ∙ under (list_all (expression_fits names) es) _ _ (λ fit. ap (own_dimensions_fit names known s) (free_same es fit))

    refusal_same : (es : List Expr) → names_refusal names (own_uses s ++ uses (targets_of_all es)) (own_group s ∷ groups (targets_of_all es)) ≡ None → parts_refusal names known s (map (found_of names) es) ≡ refusal_with names known s es
    refusal_same es none =
        ap (λ types. first_refusal None types (dimensions_fit names known s (map (found_of names) es)) (capped (total_weight (map (found_of names) es)))) (types_same es)
        ∙ ap (λ dimensions. first_refusal None (all_types_fit names known s es) dimensions (capped (total_weight (map (found_of names) es)))) (dimensions_same es)
        ∙ ap (λ few. option_or (unless (all_types_fit names known s es) Mismatch) (option_or (unless (statement_dimensions_fit names known s es) Dimensions) (unless few TooMany)))
        (ap (λ w. nat_le w 4096) (total_same es) ∙ light_same (weight_of_all (weight_named names) es))
        ∙ ap (λ refused. first_refusal refused (all_types_fit names known s es) (statement_dimensions_fit names known s es) (weight_of_all (weight_named names) es)) (sym none)

    abbrev typed_with : List TypedExpr → Typed
    typed_with all = record { objects = filter_map (λ (needed : Use). named_object names needed.name) (own_uses s); expressions = all }

    abbrev refuses : List Expr → Option TypeFault
    refuses es = names_refusal names (own_uses s ++ uses (targets_of_all es)) (own_group s ∷ groups (targets_of_all es))

    -- one refusal has one answer, whatever it carries where it refuses
    same_answer : (refusal : Option TypeFault) (one other : Typed) → (refusal ≡ None → one ≡ other) → answer refusal one ≡ answer refusal other
    same_answer (Some fault) one other same = refl
    same_answer None one other same = ap (λ value. answer None value) (same refl)

    refused_none : (es : List Expr) → refuses es ≡ None → first_refusal None (all_types_fit names known s es) (statement_dimensions_fit names known s es) (weight_of_all (weight_named names) es) ≡ refusal_with names known s es
    refused_none es none =
        ap (λ r. first_refusal r (all_types_fit names known s es) (statement_dimensions_fit names known s es) (weight_of_all (weight_named names) es)) (sym none)

    module _ (locals : List (List ℕ × Kind)) where
      -- a name is refused
      pub refused_statement : (es : List Expr) (fault : TypeFault) → es ≡ expressions names s → names_refusal names (own_uses s ++ uses (targets_of_all es)) (own_group s ∷ groups (targets_of_all es)) ≡ Some fault → statement_answer names known locals s ≡ Err fault
      refused_statement es fault those refused =
          ap (λ all. answer (refusal_with names known s all) (typed_statement names locals s)) (sym those)
          ∙ ap (λ r. answer (first_refusal r (all_types_fit names known s es) (statement_dimensions_fit names known s es) (weight_of_all (weight_named names) es)) (typed_statement names locals s)) refused

      -- what was found of an accepted statement
      exact : (es : List Expr) → first_refusal None (all_types_fit names known s es) (statement_dimensions_fit names known s es) (weight_of_all (weight_named names) es) ≡ None → with_trees names locals es (map (found_of names) es) ≡ map (typed names locals) es
      exact es none =
          let both = accepted (all_types_fit names known s es) (statement_dimensions_fit names known s es) (weight_of_all (weight_named names) es) none in
          typed_all locals es (is_light _ both.1) (and_parts (list_all (expression_fits names) es) _ both.0).0

      settled_with : (es : List Expr) → refuses es ≡ None → answer (parts_refusal names known s (map (found_of names) es)) (typed_parts names locals (own_uses s) es (map (found_of names) es)) ≡ answer (refusal_with names known s es) (typed_with (map (typed names locals) es))
      settled_with es none =
          ap (λ r. answer r (typed_parts names locals (own_uses s) es (map (found_of names) es))) (refusal_same es none)
          ∙ same_answer (refusal_with names known s es) _ _ (λ not. ap (λ (all : List TypedExpr). typed_with all) (exact es (refused_none es none ∙ not)))

      -- no name is refused
      pub settled_statement : (es : List Expr) → es ≡ expressions names s → names_refusal names (own_uses s ++ uses (targets_of_all es)) (own_group s ∷ groups (targets_of_all es)) ≡ None → parts_answer names known locals s (own_uses s) es (map (found_of names) es) ≡ statement_answer names known locals s
      settled_statement es those none =
          settled_with es none
          ∙ ap (λ all. answer (refusal_with names known s all) (typed_with (map (typed names locals) all))) those

-- expressions of which nothing more was found
pub none_behind : (names : Names) (locals : List (List ℕ × Kind)) (typed : List TypedExpr) (es : List Expr) (parts : List Found) (whole : List TypedExpr) → length parts < 1 → typed ++ with_trees names locals es parts ≡ whole → typed ≡ whole
none_behind names locals typed [] parts whole few all = sym (append-nil typed) ∙ all
none_behind names locals typed (e ∷ es) [] whole few all = sym (append-nil typed) ∙ all
none_behind names locals typed (e ∷ es) (part ∷ parts) whole few all = absurd (omega (arith, few))
