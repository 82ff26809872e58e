-- A session's line names no formula, since no object has a text yet.
use Rattle.std.specs.Prelude.{ℕ, ◌≡◌, ◌++◌, [], List, Option, Some, None, slice_get, All}
use Rattle.std.specs.Option.{option_map, option_and_then}
use Rattle.std.proofs.Common.{◌∙◌, ap, sym, subst}
use Rattle.std.proofs.lemmas.List.Elements.{All-nil}
use Rattle.aw_cell.specs.declared.cell.Cell.{Cell}
use Rattle.aw_cell.specs.declared.cell.Cell.TheVariants as cell
use Rattle.aw_cell.specs.declared.cell.Kind.{Kind}
use Rattle.aw_cell.specs.declared.cell.Kind.TheVariants as kind
use Rattle.aw_schema.specs.declared.definition.Def.{Def}
use Rattle.aw_schema.specs.declared.definition.DefKind.{DefKind}
use Rattle.aw_schema.specs.declared.definition.DefKind.TheVariants as defined
use Rattle.aw_schema.specs.Definitions.{object_of}
use Rattle.dml_tree.specs.declared.expr.Expr.{Expr, roll-Expr, map-Expr}
use Rattle.dml_tree.specs.declared.expr.Expr.TheOpen.{Expr-F}
use Rattle.dml_tree.specs.declared.expr.Expr.TheFolds.{fold-roll-Expr, ind-Expr}
use Rattle.dml_tree.specs.declared.expr.Joint.{Joint}
use Rattle.dml_kinds.specs.declared.meaning.Known.{Known}
use Rattle.dml_kinds.specs.declared.meaning.Meaning.{Meaning}
use Rattle.dml_kinds.specs.declared.tree.FixedValue.{FixedValue}
use Rattle.dml_kinds.specs.declared.tree.Taken.{Taken}
use Rattle.dml_kinds.specs.declared.tree.Tree.{Tree, roll-Tree}
use Rattle.dml_kinds.specs.declared.tree.Tree.TheOpen.{Tree-F}
use Rattle.dml_kinds.specs.declared.tree.Tree.TheFolds.{fold-roll-Tree}
use Rattle.dml_kinds.specs.declared.tree.Tree.TheVariants as tree
use Rattle.dml_kinds.specs.declared.tree.Tree.TheVariants.{rolls-Literal, rolls-Local, rolls-Dimension, rolls-Variable, rolls-Relation, rolls-Not, rolls-Negative, rolls-Abs, rolls-AsNumber, rolls-Joined, rolls-If}
use Rattle.dml_kinds.specs.declared.types.ValueType.{ValueType}
use Rattle.dml_kinds.specs.declared.types.ValueType.TheVariants.{Of}
use Rattle.dml_kinds.specs.Meanings.{Names, names_in, meaning_named, meaning_of, object_known}
use Rattle.dml_kinds.specs.Trees.{meant, fitted_to, fitted, joined, chosen, meeting, common, number_kind, tree_type, fixed_values, level_tree, tree_of}
use Rattle.dml_kinds.specs.FreeDimensions.{first_appearances}
use Rattle.dml_compile.specs.NamedFormulas.{level_formulas, named_formulas, formula_dimensions, AreAsNamed}

-- ---- each variant of a tree

abbrev NamesNone : Tree → Type 0
NamesNone t = named_formulas t ≡ []

of_level : (x : Tree-F Tree) (t : Tree) → roll-Tree x ≡ t → named_formulas t ≡ named_formulas (roll-Tree x)
of_level x t e = ap named_formulas (sym e)

literal_none : (c : Cell) → NamesNone (tree.Literal c)
literal_none c = of_level (Tree-F.Literal c) (tree.Literal c) (rolls-Literal c) ∙ fold-roll-Tree (List Taken) level_formulas (Tree-F.Literal c)

local_none : (place : ℕ) (k : Kind) → NamesNone (tree.Local place k)
local_none place k = of_level (Tree-F.Local place k) (tree.Local place k) (rolls-Local place k) ∙ fold-roll-Tree (List Taken) level_formulas (Tree-F.Local place k)

dimension_none : (d : ℕ) → NamesNone (tree.Dimension d)
dimension_none d = of_level (Tree-F.Dimension d) (tree.Dimension d) (rolls-Dimension d) ∙ fold-roll-Tree (List Taken) level_formulas (Tree-F.Dimension d)

variable_none : (k : Kind) (t : Taken) → NamesNone (tree.Variable k t)
variable_none k t = of_level (Tree-F.Variable k t) (tree.Variable k t) (rolls-Variable k t) ∙ fold-roll-Tree (List Taken) level_formulas (Tree-F.Variable k t)

relation_none : (target : ℕ) (t : Taken) → NamesNone (tree.Relation target t)
relation_none target t = of_level (Tree-F.Relation target t) (tree.Relation target t) (rolls-Relation target t) ∙ fold-roll-Tree (List Taken) level_formulas (Tree-F.Relation target t)

not_same : (t : Tree) → named_formulas (tree.Not t) ≡ named_formulas t
not_same t = of_level (Tree-F.Not t) (tree.Not t) (rolls-Not t) ∙ fold-roll-Tree (List Taken) level_formulas (Tree-F.Not t)

negative_same : (k : Kind) (t : Tree) → named_formulas (tree.Negative k t) ≡ named_formulas t
negative_same k t = of_level (Tree-F.Negative k t) (tree.Negative k t) (rolls-Negative k t) ∙ fold-roll-Tree (List Taken) level_formulas (Tree-F.Negative k t)

abs_same : (k : Kind) (t : Tree) → named_formulas (tree.Abs k t) ≡ named_formulas t
abs_same k t = of_level (Tree-F.Abs k t) (tree.Abs k t) (rolls-Abs k t) ∙ fold-roll-Tree (List Taken) level_formulas (Tree-F.Abs k t)

number_same : (t : Tree) → named_formulas (tree.AsNumber t) ≡ named_formulas t
number_same t = of_level (Tree-F.AsNumber t) (tree.AsNumber t) (rolls-AsNumber t) ∙ fold-roll-Tree (List Taken) level_formulas (Tree-F.AsNumber t)

fitted_none : (wanted own : ValueType) (t : Tree) → NamesNone t → NamesNone (fitted_to wanted own t)
fitted_none (Of kind.Num) (Of kind.Int) t none = number_same t ∙ none
fitted_none _ _ t none = none

both_none : (a b : List Taken) → a ≡ [] → b ≡ [] → a ++ b ≡ []
both_none a b e f = ap (λ (xs : List Taken). xs ++ b) e ∙ f

joined_none : (j : Joint) (met : ValueType) (left right : Tree) → NamesNone left → NamesNone right → NamesNone (joined j met left right)
joined_none j met left right one other =
    of_level (Tree-F.Joined j met (fitted met left) (fitted met right)) (joined j met left right) (rolls-Joined j met (fitted met left) (fitted met right))
    ∙ fold-roll-Tree (List Taken) level_formulas (Tree-F.Joined j met (fitted met left) (fitted met right))
    ∙ both_none (named_formulas (fitted met left)) (named_formulas (fitted met right)) (fitted_none met (tree_type left) left one) (fitted_none met (tree_type right) right other)

chosen_none : (k : ValueType) (condition first second : Tree) → NamesNone condition → NamesNone first → NamesNone second → NamesNone (chosen k condition first second)
chosen_none k condition first second none one other =
    of_level (Tree-F.If k condition (fitted k first) (fitted k second)) (chosen k condition first second) (rolls-If k condition (fitted k first) (fitted k second))
    ∙ fold-roll-Tree (List Taken) level_formulas (Tree-F.If k condition (fitted k first) (fitted k second))
    ∙ both_none (named_formulas condition) (named_formulas (fitted k first) ++ named_formulas (fitted k second)) none
    (both_none (named_formulas (fitted k first)) (named_formulas (fitted k second)) (fitted_none k (tree_type first) first one) (fitted_none k (tree_type second) second other))

-- ---- names of a session

-- an object means no formula where no text is told
abbrev none_is : Option Meaning → List FixedValue → Type 0
none_is m fixes = NamesNone (meant m fixes)

object_none : (object : ℕ) (kind : DefKind) (fixes : List FixedValue) → none_is (meaning_of [] object kind) fixes
object_none object defined.Dimension fixes = dimension_none object
object_none object (defined.Relation target base) fixes = relation_none target _
object_none object (defined.Valueset dimension) fixes = literal_none cell.Na
object_none object (defined.Variable k dimensions) fixes = variable_none k _
object_none object (defined.Formula text) fixes = literal_none cell.Na
object_none object (defined.Program text) fixes = literal_none cell.Na
object_none object (defined.Aggmap text) fixes = literal_none cell.Na

abbrev meaning_in : Option Known → Option Meaning
meaning_in known = option_map (λ (one : Known). one.meaning) known

told_none : (def : Def) (m : Option Meaning) (fixes : List FixedValue) → none_is m fixes → none_is (meaning_in (option_map (λ (one : Meaning). record { name = def.name; meaning = one }) m)) fixes
told_none def None fixes none = none
told_none def (Some m) fixes none = none

def_none : (object : ℕ) (def : Option Def) (fixes : List FixedValue) → none_is (meaning_in (option_and_then (λ (one : Def). option_map (λ (m : Meaning). record { name = one.name; meaning = m }) (meaning_of [] object one.kind)) def)) fixes
def_none object None fixes = literal_none cell.Na
def_none object (Some def) fixes = told_none def (meaning_of [] object def.kind) fixes (object_none object def.kind fixes)

module _ (definitions : List Def) where
  abbrev names : Names
  names = names_in definitions [] []

  name_none : (name : List ℕ) (fixes : List FixedValue) → none_is (meaning_named names name) fixes
  unfolding names_in
  name_none name fixes = by (object_of definitions name)
    where
      by : (object : Option ℕ) → none_is (meaning_in (option_and_then (object_known definitions []) object)) fixes
      by None = literal_none cell.Na
      by (Some object) = def_none object (slice_get definitions object) fixes

  -- ---- expressions

  abbrev IsNone : Expr → Type 0
  IsNone e = NamesNone (tree_of names e)

  LevelIs : Expr-F Expr → Type 0
  LevelIs z = NamesNone (level_tree names (map-Expr Expr Tree (tree_of names) z))

  level_is : (y : Expr-F ((e : Expr) × IsNone e)) → LevelIs (map-Expr ((e : Expr) × IsNone e) Expr (λ e. e.0) y)
  unfolding LevelIs
  level_is Expr-F.Na = literal_none cell.Na
  level_is (Expr-F.Integer whole) = literal_none (cell.Int whole)
  level_is (Expr-F.Number number) = literal_none (cell.Num number)
  level_is (Expr-F.Text text) = literal_none (cell.Text text)
  level_is (Expr-F.Truth truth) = literal_none (cell.Bool truth)
  level_is (Expr-F.Object target) = name_none target.name (fixed_values names target.fixes)
  level_is (Expr-F.Grouped e) = e.1
  level_is (Expr-F.Not e) = not_same (tree_of names e.0) ∙ e.1
  level_is (Expr-F.Negative e) = negative_same (number_kind (tree_type (tree_of names e.0))) (tree_of names e.0) ∙ e.1
  level_is (Expr-F.Abs e) = abs_same (number_kind (tree_type (tree_of names e.0))) (tree_of names e.0) ∙ e.1
  level_is (Expr-F.Joined j e f) =
      joined_none j (meeting j (tree_type (tree_of names e.0)) (tree_type (tree_of names f.0))) (tree_of names e.0) (tree_of names f.0) e.1 f.1
  level_is (Expr-F.If e f g) =
      chosen_none (common (tree_type (tree_of names f.0)) (tree_type (tree_of names g.0))) (tree_of names e.0) (tree_of names f.0) (tree_of names g.0) e.1 f.1 g.1

  rolled_is : (x : Expr-F Expr) → LevelIs x → IsNone (roll-Expr x)
  unfolding LevelIs
  rolled_is x h = ap named_formulas (fold-roll-Expr Tree (level_tree names) x) ∙ h

  none_named : (e : Expr) → IsNone e
  none_named = ind-Expr IsNone (λ x y is. rolled_is x (subst LevelIs is (level_is y)))

  abbrev IsAsNamed : Taken → Type 0
  IsAsNamed taken = taken.dimensions ≡ first_appearances (formula_dimensions [] taken.object)

  pub as-named : (e : Expr) → AreAsNamed [] (tree_of names e)
  as-named e =
      subst (λ (all : List Taken). All IsAsNamed all) (sym (none_named e)) (All-nil IsAsNamed)
