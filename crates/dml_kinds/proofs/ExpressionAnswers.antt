-- What is answered of an expression by what was found of it.
use Rattle.std.specs.Prelude.{ℕ, ◌≡◌, ◌≤◌, ◌<◌, ◌&&◌, Bool, true, false, nat_le, List, [], length, Option, Some, None, Result, Ok, Err, is_some, unwrap_or, if◌then◌else◌}
use Rattle.std.specs.List.{list_all, flat_map}
use Rattle.std.proofs.Common.{◌∙◌, ap, sym, refl, arith, rules, inl, inr, ⊎_elim}
use Rattle.std.proofs.lemmas.Bool.{cases_lt, lt-leb}
use Rattle.aw_cell.specs.declared.cell.Kind.{Kind}
use Rattle.dml_tree.specs.declared.expr.Expr.{Expr}
use Rattle.dml_kinds.specs.declared.fault.TypeFault.{TypeFault}
use Rattle.dml_kinds.specs.declared.fault.TypeFault.TheVariants.{TooMany, NoMemory}
use Rattle.dml_kinds.specs.declared.types.ValueType.{ValueType}
use Rattle.dml_kinds.specs.declared.types.ValueType.TheVariants.{Na}
use Rattle.dml_kinds.specs.declared.checking.Measure.{Measure}
use Rattle.dml_kinds.specs.declared.checking.TypedExpr.{TypedExpr}
use Rattle.dml_kinds.specs.declared.parts.Part.{Part}
use Rattle.dml_kinds.specs.Meanings.{Names}
use Rattle.dml_kinds.specs.Names.{targets, uses, groups, names_refusal}
use Rattle.dml_kinds.specs.Types.{type_of}
use Rattle.dml_kinds.specs.FreeDimensions.{first_appearances, target_dimensions, fixes_fit, dimensions_fit}
use Rattle.dml_kinds.specs.Checking.{first_refusal, answer, IsAnswer, unless, expression_weight, refusal, measure, measure_answer, kinds_of, typed_as, expression_answer, formula_kind, formula_refusal, formula_measure, formula_measure_answer}
use Rattle.dml_kinds.specs.Trees.{tree_of}
use Rattle.dml_kinds.specs.inside.Capped.{capped}
use Rattle.dml_kinds.specs.inside.Parts.{part_answer, part_of, formula_part, formula_answer_with, up_to_six}

abbrev measure_as : ValueType → List ℕ → ℕ → Measure
measure_as kind dimensions weight = record { kind = kind; dimensions = dimensions; weight = weight }

abbrev found_as : Option ValueType → Option (List ℕ) → ℕ → Part
found_as kind dimensions weight = record { kind = kind; dimensions = dimensions; weight = weight }

light : (w : ℕ) → w ≤ 4096 → capped w ≡ w
light w small = omega arith

heavy : (w : ℕ) → 4096 < w → nat_le w 4096 ≡ false
heavy w great = lt-leb w 4096 great

capped_heavy : (w : ℕ) → 4096 < w → 4096 < capped w
capped_heavy w great = omega arith

-- the cap of a weight is over 4,096 where the weight is
weighed : (kind : ValueType) (dimensions : List ℕ) (w : ℕ) → part_answer (found_as (Some kind) (Some dimensions) (capped w)) ≡ answer (first_refusal None true true w) (measure_as kind dimensions w)
weighed kind dimensions w =
    elim (cases_lt 4096 w) [
      | inl great ↦
          ap (λ light. answer (unless light TooMany) (measure_as kind dimensions (capped w))) (heavy (capped w) (capped_heavy w great))
          ∙ sym (ap (λ light. answer (unless light TooMany) (measure_as kind dimensions w)) (heavy w great))
      | inr small ↦ ap (λ c. part_answer (found_as (Some kind) (Some dimensions) c)) (light w small)
    ]

measured : (kind : ValueType) (few : Bool) (dimensions : List ℕ) (w : ℕ) → part_answer (found_as (Some kind) (if few then Some dimensions else None) (capped w)) ≡ answer (first_refusal None true few w) (measure_as kind dimensions w)
measured kind true dimensions w = weighed kind dimensions w
measured kind false dimensions w = refl

found : (kind : Option ValueType) (fixed : Bool) (dimensions : List ℕ) (w : ℕ) → part_answer (found_as kind (if fixed then up_to_six dimensions else None) (capped w)) ≡ answer (first_refusal None (is_some kind) (fixed && nat_le (length dimensions) 6) w) (measure_as (unwrap_or kind Na) dimensions w)
found None fixed dimensions w = refl
found (Some kind) true dimensions w = measured kind (nat_le (length dimensions) 6) dimensions w
found (Some kind) false dimensions w = refl

-- what was found of an expression, of which no name is refused, is its answer
pub settled_expression : (names : Names) (e : Expr) → names_refusal names (uses (targets e)) (groups (targets e)) ≡ None → part_answer (part_of names e) ≡ measure_answer names e
settled_expression names e none =
    found (type_of names e) (list_all (fixes_fit names) (targets e)) (first_appearances (flat_map (target_dimensions names) (targets e))) (expression_weight names e)
    ∙ ap (λ refused. answer (first_refusal refused (is_some (type_of names e)) (dimensions_fit names e) (expression_weight names e)) (measure names e)) (sym none)

-- a name of it is refused
pub refused_expression : (names : Names) (e : Expr) (fault : TypeFault) → names_refusal names (uses (targets e)) (groups (targets e)) ≡ Some fault → measure_answer names e ≡ Err fault
refused_expression names e fault refused =
    ap (λ first. answer (first_refusal first (is_some (type_of names e)) (dimensions_fit names e) (expression_weight names e)) (measure names e)) refused

-- ---- of a formula

pub settled_formula : (names : Names) (e : Expr) → names_refusal names (uses (targets e)) (groups (targets e)) ≡ None → part_answer (formula_part names e) ≡ formula_measure_answer names e
settled_formula names e none =
    found (formula_kind (type_of names e)) (list_all (fixes_fit names) (targets e)) (first_appearances (flat_map (target_dimensions names) (targets e))) (expression_weight names e)
    ∙ ap (λ refused. answer (first_refusal refused (is_some (formula_kind (type_of names e))) (dimensions_fit names e) (expression_weight names e)) (formula_measure names e)) (sym none)

pub refused_formula : (names : Names) (e : Expr) (fault : TypeFault) → names_refusal names (uses (targets e)) (groups (targets e)) ≡ Some fault → formula_measure_answer names e ≡ Err fault
refused_formula names e fault refused =
    ap (λ first. answer (first_refusal first (is_some (formula_kind (type_of names e))) (dimensions_fit names e) (expression_weight names e)) (formula_measure names e)) refused

-- ---- with trees

accepted_as : {X Y : Type 0} (refused : Option TypeFault) (x m : X) (f : X → Y) → IsAnswer (Ok m) (answer refused x) → Ok (f m) ≡ answer refused (f x)
accepted_as (Some fault) x m f h = ⊎_elim (λ e. absurd (cc)) (λ e. absurd (cc)) h
accepted_as {X} {Y} None x m f h = ⊎_elim (λ e. absurd (cc)) (λ e. let same : m ≡ x = cc in ap (λ (v : X). Ok (f v)) same) h

refused_as : {X Y : Type 0} (refused : Option TypeFault) (x : X) (y : Y) (fault : TypeFault) → IsAnswer (Err fault) (answer refused x) → IsAnswer (Err fault) (answer refused y)
refused_as None x y fault h = ⊎_elim (λ e. let same : fault ≡ NoMemory = cc in inl (ap (λ (f : TypeFault). Err f) same)) (λ e. absurd (cc)) h
refused_as (Some first) x y fault h = ⊎_elim (λ e. let same : fault ≡ NoMemory = cc in inl (ap (λ (f : TypeFault). Err f) same)) (λ e. let same : fault ≡ first = cc in inr (ap (λ (f : TypeFault). Err f) same)) h

pub typed_expression : (names : Names) (locals : List (List ℕ × Kind)) (e : Expr) (m : Measure) (t : TypedExpr) → IsAnswer (Ok m) (measure_answer names e) → t ≡ typed_as m (tree_of names e) (kinds_of locals) → IsAnswer (Ok t) (expression_answer names locals e)
typed_expression names locals e m t h same =
    inr (ap (λ (x : TypedExpr). Ok x) same ∙ accepted_as (refusal names e) (measure names e) m (λ (x : Measure). typed_as x (tree_of names e) (kinds_of locals)) h)

pub untyped_expression : (names : Names) (locals : List (List ℕ × Kind)) (e : Expr) (fault : TypeFault) → IsAnswer (Err fault) (measure_answer names e) → IsAnswer (Err fault) (expression_answer names locals e)
untyped_expression names locals e fault h = refused_as (refusal names e) (measure names e) (typed_as (measure names e) (tree_of names e) (kinds_of locals)) fault h

pub typed_formula : (names : Names) (kinds : List Kind) (e : Expr) (m : Measure) (t : TypedExpr) → IsAnswer (Ok m) (formula_measure_answer names e) → t ≡ typed_as m (tree_of names e) kinds → IsAnswer (Ok t) (formula_answer_with names kinds e)
typed_formula names kinds e m t h same =
    inr (ap (λ (x : TypedExpr). Ok x) same ∙ accepted_as (formula_refusal names e) (formula_measure names e) m (λ (x : Measure). typed_as x (tree_of names e) kinds) h)

pub untyped_formula : (names : Names) (kinds : List Kind) (e : Expr) (fault : TypeFault) → IsAnswer (Err fault) (formula_measure_answer names e) → IsAnswer (Err fault) (formula_answer_with names kinds e)
untyped_formula names kinds e fault h =
    refused_as (formula_refusal names e) (formula_measure names e) (typed_as (formula_measure names e) (tree_of names e) kinds) fault h
