-- An expression and its tree lie over the same dimensions, where no name is of a wrong kind.
use Rattle.std.proofs.Common.{◌≡◌, ◌∙◌, ℕ, Bool, true, false, not, cond, ◌||◌, eqb, List, [], ◌∷◌, ◌++◌, map, Option, Some, None, Ok, Err, IfOk, Result, is_some, refl, sym, ap, subst, ⊎_elim, append_assoc, append-nil}
use Rattle.std.specs.Prelude.{nat_le, filter, filter_map, flat_map, if◌then◌else◌}
use Rattle.std.specs.List.{list_any, cons_option}
use Rattle.std.specs.Option.{option_map, option_or}
use Rattle.std.proofs.lemmas.Grind.{flat_map-append}
use Rattle.aw_cell.specs.declared.cell.Cell.{Cell}
use Rattle.aw_cell.specs.declared.cell.Cell.TheVariants as cell
use Rattle.aw_cell.specs.declared.cell.Kind.{Kind}
use Rattle.aw_cell.specs.declared.cell.Kind.TheVariants as kind
use Rattle.dml_tree.specs.declared.expr.Fix.{Fix}
use Rattle.dml_tree.specs.declared.expr.Joint.{Joint}
use Rattle.dml_tree.specs.declared.expr.Target.{Target}
use Rattle.dml_tree.specs.declared.expr.Expr.{Expr, roll-Expr, map-Expr}
use Rattle.dml_tree.specs.declared.expr.Expr.TheOpen.{Expr-F}
use Rattle.dml_tree.specs.declared.expr.Expr.TheFolds.{fold-roll-Expr, ind-Expr}
use Rattle.dml_kinds.specs.declared.checking.Measure.{Measure}
use Rattle.dml_kinds.specs.declared.checking.TypedExpr.{TypedExpr}
use Rattle.dml_kinds.specs.declared.fault.TypeFault.{TypeFault}
use Rattle.dml_kinds.specs.declared.fault.TypeFault.TheVariants.{Unknown, WrongKind, Repeat, Mismatch, Dimensions, TooMany}
use Rattle.dml_kinds.specs.declared.types.ValueType.{ValueType}
use Rattle.dml_kinds.specs.declared.types.ValueType.TheVariants.{Na, Of}
use Rattle.dml_kinds.specs.declared.meaning.Known.{Known}
use Rattle.dml_kinds.specs.declared.meaning.Meaning.{Meaning}
use Rattle.dml_kinds.specs.declared.meaning.Meaning.TheVariants as meaning
use Rattle.dml_kinds.specs.declared.meaning.Role.TheVariants as role
use Rattle.dml_kinds.specs.declared.meaning.Use.{Use}
use Rattle.dml_kinds.specs.declared.tree.FixedValue.{FixedValue}
use Rattle.dml_kinds.specs.declared.tree.Taken.{Taken}
use Rattle.dml_kinds.specs.declared.tree.Tree.{Tree, roll-Tree}
use Rattle.dml_kinds.specs.declared.tree.Tree.TheOpen.{Tree-F}
use Rattle.dml_kinds.specs.declared.tree.Tree.TheFolds.{fold-roll-Tree}
use Rattle.dml_kinds.specs.declared.tree.Tree.TheVariants as tree
use Rattle.dml_kinds.specs.declared.tree.Tree.TheVariants.{rolls-Literal, rolls-Local, rolls-Dimension, rolls-Variable, rolls-Relation, rolls-Formula, rolls-Not, rolls-Negative, rolls-Abs, rolls-AsNumber, rolls-Joined, rolls-If}
use Rattle.dml_kinds.specs.Meanings.{Names, fits, dimensions_in, meaning_named, dimension_named, dimensions_named}
use Rattle.dml_kinds.specs.Names.{targets, level_targets, role_of, use_as, uses, value_uses, groups, first_of, unknown, wrong_kind, repeated, names_refusal}
use Rattle.dml_kinds.specs.FreeDimensions.{is_some_dimension, is_fixed, target_dimensions, free_dimensions, first_appearances, dimensions_fit}
use Rattle.dml_kinds.specs.Types.{type_of}
use Rattle.dml_kinds.specs.Checking.{unless, answer, IsAnswer, kinds_of, typed_as, expression_weight, measure, expression_answer, formula_kind, formula_measure}
use Rattle.dml_kinds.specs.Trees.{meant, fitted_to, fitted, joined, chosen, meeting, common, number_kind, tree_type, taken, fixed_value, fixed_values, target_tree, level_tree, tree_of}
use Rattle.dml_kinds.specs.inside.Parts.{formula_answer_with}
use Rattle.dml_kinds.specs.TreeDimensions.{is_fixed_at, taken_dimensions, level_dimensions, tree_dimensions}

-- ---- each variant of a tree

of_level : (x : Tree-F Tree) (t : Tree) → roll-Tree x ≡ t → tree_dimensions t ≡ tree_dimensions (roll-Tree x)
of_level x t e = ap tree_dimensions (sym e)

literal_has : (c : Cell) → tree_dimensions (tree.Literal c) ≡ []
literal_has c = of_level (Tree-F.Literal c) (tree.Literal c) (rolls-Literal c) ∙ fold-roll-Tree (List ℕ) level_dimensions (Tree-F.Literal c)

local_has : (place : ℕ) (k : Kind) → tree_dimensions (tree.Local place k) ≡ []
local_has place k = of_level (Tree-F.Local place k) (tree.Local place k) (rolls-Local place k) ∙ fold-roll-Tree (List ℕ) level_dimensions (Tree-F.Local place k)

dimension_has : (d : ℕ) → tree_dimensions (tree.Dimension d) ≡ d ∷ []
dimension_has d = of_level (Tree-F.Dimension d) (tree.Dimension d) (rolls-Dimension d) ∙ fold-roll-Tree (List ℕ) level_dimensions (Tree-F.Dimension d)

variable_has : (k : Kind) (t : Taken) → tree_dimensions (tree.Variable k t) ≡ taken_dimensions t
variable_has k t = of_level (Tree-F.Variable k t) (tree.Variable k t) (rolls-Variable k t) ∙ fold-roll-Tree (List ℕ) level_dimensions (Tree-F.Variable k t)

relation_has : (target : ℕ) (t : Taken) → tree_dimensions (tree.Relation target t) ≡ taken_dimensions t
relation_has target t = of_level (Tree-F.Relation target t) (tree.Relation target t) (rolls-Relation target t) ∙ fold-roll-Tree (List ℕ) level_dimensions (Tree-F.Relation target t)

formula_has : (k : Kind) (t : Taken) → tree_dimensions (tree.Formula k t) ≡ taken_dimensions t
formula_has k t = of_level (Tree-F.Formula k t) (tree.Formula k t) (rolls-Formula k t) ∙ fold-roll-Tree (List ℕ) level_dimensions (Tree-F.Formula k t)

not_has : (t : Tree) → tree_dimensions (tree.Not t) ≡ tree_dimensions t
not_has t = of_level (Tree-F.Not t) (tree.Not t) (rolls-Not t) ∙ fold-roll-Tree (List ℕ) level_dimensions (Tree-F.Not t)

negative_has : (k : Kind) (t : Tree) → tree_dimensions (tree.Negative k t) ≡ tree_dimensions t
negative_has k t = of_level (Tree-F.Negative k t) (tree.Negative k t) (rolls-Negative k t) ∙ fold-roll-Tree (List ℕ) level_dimensions (Tree-F.Negative k t)

abs_has : (k : Kind) (t : Tree) → tree_dimensions (tree.Abs k t) ≡ tree_dimensions t
abs_has k t = of_level (Tree-F.Abs k t) (tree.Abs k t) (rolls-Abs k t) ∙ fold-roll-Tree (List ℕ) level_dimensions (Tree-F.Abs k t)

number_has : (t : Tree) → tree_dimensions (tree.AsNumber t) ≡ tree_dimensions t
number_has t = of_level (Tree-F.AsNumber t) (tree.AsNumber t) (rolls-AsNumber t) ∙ fold-roll-Tree (List ℕ) level_dimensions (Tree-F.AsNumber t)

fitted_has : (wanted own : ValueType) (t : Tree) → tree_dimensions (fitted_to wanted own t) ≡ tree_dimensions t
fitted_has (Of kind.Num) (Of kind.Int) t = number_has t
fitted_has _ _ t = refl

both_are : (a b c d : List ℕ) → a ≡ b → c ≡ d → a ++ c ≡ b ++ d
both_are a b c d e f = ap (λ (xs : List ℕ). xs ++ c) e ∙ ap (λ (xs : List ℕ). b ++ xs) f

joined_has : (j : Joint) (met : ValueType) (left right : Tree) → tree_dimensions (joined j met left right) ≡ tree_dimensions left ++ tree_dimensions right
joined_has j met left right =
    of_level (Tree-F.Joined j met (fitted met left) (fitted met right)) (joined j met left right) (rolls-Joined j met (fitted met left) (fitted met right))
    ∙ fold-roll-Tree (List ℕ) level_dimensions (Tree-F.Joined j met (fitted met left) (fitted met right))
    ∙ both_are (tree_dimensions (fitted met left)) (tree_dimensions left) (tree_dimensions (fitted met right)) (tree_dimensions right) (fitted_has met (tree_type left) left) (fitted_has met (tree_type right) right)

chosen_has : (k : ValueType) (condition first second : Tree) → tree_dimensions (chosen k condition first second) ≡ tree_dimensions condition ++ (tree_dimensions first ++ tree_dimensions second)
chosen_has k condition first second =
    of_level (Tree-F.If k condition (fitted k first) (fitted k second)) (chosen k condition first second) (rolls-If k condition (fitted k first) (fitted k second))
    ∙ fold-roll-Tree (List ℕ) level_dimensions (Tree-F.If k condition (fitted k first) (fitted k second))
    ∙ ap (λ (xs : List ℕ). tree_dimensions condition ++ xs)
    (both_are (tree_dimensions (fitted k first)) (tree_dimensions first) (tree_dimensions (fitted k second)) (tree_dimensions second) (fitted_has k (tree_type first) first) (fitted_has k (tree_type second) second))

module _ (names : Names) where
  -- ---- a tree has the dimensions of its names, one after the other

  abbrev of_name : Target → List ℕ
  of_name target = tree_dimensions (target_tree names target)

  abbrev IsByNames : Expr → Type 0
  IsByNames e = tree_dimensions (tree_of names e) ≡ flat_map of_name (targets e)

  LevelIs : Expr-F Expr → Type 0
  LevelIs z = tree_dimensions (level_tree names (map-Expr Expr Tree (tree_of names) z)) ≡ flat_map of_name (level_targets (map-Expr Expr (List Target) targets z))

  split : (xs ys : List Target) → flat_map of_name (xs ++ ys) ≡ flat_map of_name xs ++ flat_map of_name ys
  split [] ys = refl
  split (x ∷ xs) ys = ap (λ (l : List ℕ). of_name x ++ l) (split xs ys) ∙ sym (append_assoc (of_name x) (flat_map of_name xs) (flat_map of_name ys))

  level_is : (y : Expr-F ((e : Expr) × IsByNames e)) → LevelIs (map-Expr ((e : Expr) × IsByNames e) Expr (λ e. e.0) y)
  unfolding LevelIs
  level_is Expr-F.Na = literal_has cell.Na
  level_is (Expr-F.Integer whole) = literal_has (cell.Int whole)
  level_is (Expr-F.Number number) = literal_has (cell.Num number)
  level_is (Expr-F.Text text) = literal_has (cell.Text text)
  level_is (Expr-F.Truth truth) = literal_has (cell.Bool truth)
  level_is (Expr-F.Object target) = sym (append-nil (of_name target))
  level_is (Expr-F.Grouped e) = e.1
  level_is (Expr-F.Not e) = not_has (tree_of names e.0) ∙ e.1
  level_is (Expr-F.Negative e) = negative_has (number_kind (tree_type (tree_of names e.0))) (tree_of names e.0) ∙ e.1
  level_is (Expr-F.Abs e) = abs_has (number_kind (tree_type (tree_of names e.0))) (tree_of names e.0) ∙ e.1
  level_is (Expr-F.Joined j e f) =
      joined_has j (meeting j (tree_type (tree_of names e.0)) (tree_type (tree_of names f.0))) (tree_of names e.0) (tree_of names f.0)
      ∙ both_are (tree_dimensions (tree_of names e.0)) (flat_map of_name (targets e.0)) (tree_dimensions (tree_of names f.0)) (flat_map of_name (targets f.0)) e.1 f.1
      ∙ sym (split (targets e.0) (targets f.0))
  level_is (Expr-F.If e f g) =
      chosen_has (common (tree_type (tree_of names f.0)) (tree_type (tree_of names g.0))) (tree_of names e.0) (tree_of names f.0) (tree_of names g.0)
      ∙ both_are (tree_dimensions (tree_of names e.0)) (flat_map of_name (targets e.0)) (tree_dimensions (tree_of names f.0) ++ tree_dimensions (tree_of names g.0)) (flat_map of_name (targets f.0) ++ flat_map of_name (targets g.0)) e.1
      (both_are (tree_dimensions (tree_of names f.0)) (flat_map of_name (targets f.0)) (tree_dimensions (tree_of names g.0)) (flat_map of_name (targets g.0)) f.1 g.1)
      ∙ sym (append_assoc (flat_map of_name (targets e.0)) (flat_map of_name (targets f.0)) (flat_map of_name (targets g.0)))
      ∙ ap (λ (l : List ℕ). l ++ flat_map of_name (targets g.0)) (sym (split (targets e.0) (targets f.0)))
      ∙ sym (split (targets e.0 ++ targets f.0) (targets g.0))

  rolled_is : (x : Expr-F Expr) → LevelIs x → IsByNames (roll-Expr x)
  unfolding LevelIs
  rolled_is x h =
      ap tree_dimensions (fold-roll-Expr Tree (level_tree names) x) ∙ h ∙ sym (ap (flat_map of_name) (fold-roll-Expr (List Target) level_targets x))

  by_names : (e : Expr) → IsByNames e
  by_names = ind-Expr IsByNames (λ x y is. rolled_is x (subst LevelIs is (level_is y)))

  -- ---- a name has the same dimensions in a tree, where it is of no wrong kind

  abbrev value_in : List ℕ → ℕ → FixedValue
  value_in value d = record { dimension = d; value = value }

  fixed_same : (fixes : List Fix) (d : ℕ) → is_fixed_at (fixed_values names fixes) d ≡ is_fixed names fixes d
  fixed_same [] d = refl
  fixed_same (fix ∷ fixes) d = by (dimension_named names fix.dimension) (fixed_same fixes d)
    where
      by : (o : Option ℕ) → is_fixed_at (fixed_values names fixes) d ≡ is_fixed names fixes d → is_fixed_at (cons_option (option_map (value_in fix.value) o) (fixed_values names fixes)) d ≡ (is_some_dimension d o || is_fixed names fixes d)
      by None later = later
      by (Some other) later = ap (λ (b : Bool). eqb other d || b) later

  filter_same : (p q : ℕ → Bool) → ((d : ℕ) → p d ≡ q d) → (ds : List ℕ) → filter p ds ≡ filter q ds
  filter_same p q same [] = refl
  filter_same p q same (d ∷ ds) =
      ap (λ (b : Bool). cond b (d ∷ filter p ds) (filter p ds)) (same d) ∙ ap (λ (l : List ℕ). cond (q d) (d ∷ l) l) (filter_same p q same ds)

  taken_same : (object : ℕ) (ds : List ℕ) (fixes : List Fix) → taken_dimensions (taken object ds (fixed_values names fixes)) ≡ filter (λ d. not (is_fixed names fixes d)) ds
  taken_same object ds fixes =
      filter_same (λ (d : ℕ). not (is_fixed_at (fixed_values names fixes) d)) (λ (d : ℕ). not (is_fixed names fixes d)) (λ d. ap not (fixed_same fixes d)) ds

  abbrev wrong_one : Meaning → List ℕ → List Fix → Option (List ℕ)
  wrong_one m name fixes = if fits (role_of role.Value role.Taken fixes) m then None else Some name

  meaning_same : (m : Meaning) (name : List ℕ) (fixes : List Fix) → wrong_one m name fixes ≡ None → tree_dimensions (meant (Some m) (fixed_values names fixes)) ≡ filter (λ d. not (is_fixed names fixes d)) (dimensions_in m)
  meaning_same (meaning.Dimension object) name [] none = dimension_has object
  meaning_same (meaning.Dimension object) name (fix ∷ fixes) none = absurd (cc)
  meaning_same (meaning.Local place k) name fixes none = local_has place k
  meaning_same (meaning.Relation object target base) name fixes none =
      relation_has target (taken object (base ∷ []) (fixed_values names fixes)) ∙ taken_same object (base ∷ []) fixes
  meaning_same (meaning.Variable object k dimensions) name fixes none =
      variable_has k (taken object dimensions (fixed_values names fixes)) ∙ taken_same object dimensions fixes
  meaning_same (meaning.Formula object k dimensions weight) name fixes none =
      formula_has k (taken object dimensions (fixed_values names fixes)) ∙ taken_same object dimensions fixes
  meaning_same _ name fixes none = literal_has cell.Na

  known_same : (known : Option Known) (fixes : List Fix) → elim known as (λ _. Option (List ℕ)) [ Some known ↦ wrong_one known.meaning known.name fixes | None ↦ None ] ≡ None → tree_dimensions (meant (option_map (λ (known : Known). known.meaning) known) (fixed_values names fixes)) ≡ filter (λ d. not (is_fixed names fixes d)) (elim (option_map (λ (known : Known). known.meaning) known) as (λ _. List ℕ) [ Some meaning ↦ dimensions_in meaning | None ↦ [] ])
  known_same None fixes none = literal_has cell.Na
  known_same (Some known) fixes none = meaning_same known.meaning known.name fixes none

  target_same : (target : Target) → wrong_kind names (use_as (role_of role.Value role.Taken target.fixes) target.name) ≡ None → of_name target ≡ target_dimensions names target
  target_same target none = known_same (names target.name) target.fixes none

  none_first : {A : Type 0} (a b : Option A) → option_or a b ≡ None → a ≡ None
  none_first None b e = refl
  none_first (Some x) b e = e

  none_then : {A : Type 0} (a b : Option A) → option_or a b ≡ None → b ≡ None
  none_then None b e = e
  none_then (Some x) b e = absurd (cc)

  behind : (before more : List Use) → first_of (wrong_kind names) (before ++ more) ≡ None → first_of (wrong_kind names) more ≡ None
  behind [] more e = e
  behind (x ∷ before) more e = behind before more (none_then (wrong_kind names x) (first_of (wrong_kind names) (before ++ more)) e)

  names_same : (ts : List Target) → first_of (wrong_kind names) (uses ts) ≡ None → flat_map of_name ts ≡ flat_map (target_dimensions names) ts
  names_same [] none = refl
  names_same (t ∷ ts) none =
      both_are (of_name t) (target_dimensions names t) (flat_map of_name ts) (flat_map (target_dimensions names) ts)
      (target_same t (none_first (wrong_kind names (use_as (role_of role.Value role.Taken t.fixes) t.name)) (first_of (wrong_kind names) (map (λ (fix : Fix). use_as role.Dimension fix.dimension) t.fixes ++ uses ts)) none))
      (names_same ts (behind (value_uses t) (uses ts) none))

  -- the free dimensions of an expression are the first appearances of those of its tree
  pub same_dimensions : (e : Expr) → first_of (wrong_kind names) (uses (targets e)) ≡ None → free_dimensions names e ≡ first_appearances (tree_dimensions (tree_of names e))
  same_dimensions e none = sym (ap first_appearances (by_names e ∙ names_same (targets e) none))

  -- ---- what is answered of an expression

  map_none : {A B : Type 0} (f : A → B) (o : Option A) → option_map f o ≡ None → o ≡ None
  map_none f None e = refl
  map_none f (Some x) e = absurd (cc)

  accepted_dimensions : (e : Expr) → names_refusal names (uses (targets e)) (groups (targets e)) ≡ None → free_dimensions names e ≡ first_appearances (tree_dimensions (tree_of names e))
  accepted_dimensions e none =
      let kinds = none_then (option_map Unknown (first_of (unknown names) (uses (targets e)))) (option_or (option_map WrongKind (first_of (wrong_kind names) (uses (targets e)))) (option_map Repeat (first_of (repeated names) (groups (targets e))))) none in
      same_dimensions e (map_none WrongKind (first_of (wrong_kind names) (uses (targets e))) (none_first (option_map WrongKind (first_of (wrong_kind names) (uses (targets e)))) (option_map Repeat (first_of (repeated names) (groups (targets e)))) kinds))

  abbrev HasDimensions : TypedExpr → Type 0
  HasDimensions typed = typed.dimensions ≡ first_appearances (tree_dimensions typed.tree)

  told_dimensions : (e : Expr) (rest : Option TypeFault) (m : Measure) (kinds : List Kind) (t : TypedExpr) (refused : Option TypeFault) → refused ≡ option_or (names_refusal names (uses (targets e)) (groups (targets e))) rest → m.dimensions ≡ free_dimensions names e → Ok t ≡ answer refused (typed_as m (tree_of names e) kinds) → HasDimensions t
  told_dimensions e rest m kinds t (Some fault) is over told = absurd (cc)
  told_dimensions e rest m kinds t None is over told =
      let same : t ≡ typed_as m (tree_of names e) kinds = cc in
      subst HasDimensions (sym same)
      (over ∙ accepted_dimensions e (none_first (names_refusal names (uses (targets e)) (groups (targets e))) rest (sym is)))

  has_dimensions : (e : Expr) (rest : Option TypeFault) (m : Measure) (kinds : List Kind) (result : Result TypedExpr TypeFault) → m.dimensions ≡ free_dimensions names e → IsAnswer result (answer (option_or (names_refusal names (uses (targets e)) (groups (targets e))) rest) (typed_as m (tree_of names e) kinds)) → IfOk result HasDimensions
  has_dimensions e rest m kinds (Err fault) over told = tt
  has_dimensions e rest m kinds (Ok t) over told =
      ⊎_elim (λ short. absurd (cc)) (λ same. told_dimensions e rest m kinds t (option_or (names_refusal names (uses (targets e)) (groups (targets e))) rest) refl over same) told

  abbrev rest_of : Bool → Bool → ℕ → Option TypeFault
  rest_of types_fit dimensions_fit weight =
      option_or (unless types_fit Mismatch) (option_or (unless dimensions_fit Dimensions) (unless (nat_le weight 4096) TooMany))

  pub expression_dimensions : (locals : List (List ℕ × Kind)) (e : Expr) (result : Result TypedExpr TypeFault) → IsAnswer result (expression_answer names locals e) → IfOk result (λ (typed : TypedExpr). typed.dimensions ≡ first_appearances (tree_dimensions typed.tree))
  expression_dimensions locals e result told =
      has_dimensions e (rest_of (is_some (type_of names e)) (dimensions_fit names e) (expression_weight names e)) (measure names e) (kinds_of locals) result refl told

  pub formula_dimensions : (e : Expr) (kinds : List Kind) (result : Result TypedExpr TypeFault) → IsAnswer result (formula_answer_with names kinds e) → IfOk result (λ (typed : TypedExpr). typed.dimensions ≡ first_appearances (tree_dimensions typed.tree))
  formula_dimensions e kinds result told =
      has_dimensions e (rest_of (is_some (formula_kind (type_of names e))) (dimensions_fit names e) (expression_weight names e)) (formula_measure names e) kinds result refl told
