-- The ops of a tree are at the places of its free dimensions.
use Rattle.std.proofs.Common.{◌≡◌, ◌∙◌, ℕ, suc, ◌+◌, Bool as Truth, true, false, not, cond, ◌||◌, eqb, List, [], ◌∷◌, ◌++◌, length, map, All, Some, refl, sym, ap, subst, arith, append_assoc, append-nil}
use Rattle.std.specs.Prelude.{filter}
use Rattle.std.proofs.lemmas.List.Elements.{filter-append}
use Rattle.aw_cell.specs.declared.cell.Cell.TheVariants.{Na}
use Rattle.aw_cell.specs.declared.cell.Kind.{Kind}
use Rattle.aw_cell.specs.declared.cell.Kind.TheVariants.{Num as NUMBER, Int as INTEGER, Bool as BOOLEAN}
use Rattle.dml_tree.specs.declared.expr.Joint.{Joint}
use Rattle.dml_tree.specs.declared.expr.Joint.TheVariants as joint
use Rattle.dml_kinds.specs.declared.types.ValueType.{ValueType}
use Rattle.dml_kinds.specs.declared.tree.FixedValue.{FixedValue}
use Rattle.dml_kinds.specs.declared.tree.Taken.{Taken}
use Rattle.dml_kinds.specs.declared.tree.Tree.{Tree, roll-Tree, map-Tree}
use Rattle.dml_kinds.specs.declared.tree.Tree.TheOpen.{Tree-F}
use Rattle.dml_kinds.specs.declared.tree.Tree.TheFolds.{fold-roll-Tree, ind-Tree}
use Rattle.dml_kinds.specs.FreeDimensions.{first_appearances}
use Rattle.dml_kinds.specs.TreeDimensions.{is_fixed_at, taken_dimensions, level_dimensions, tree_dimensions}
use Rattle.dml_exec.specs.declared.op.Axis.{Axis}
use Rattle.dml_exec.specs.declared.op.Axis.TheVariants.{Free, Fixed}
use Rattle.dml_exec.specs.declared.op.Op.{Op}
use Rattle.dml_exec.specs.declared.op.Op.TheVariants.{Push, Load, Name, Neg, Abs, Convert, Not, Branch, Jump}
use Rattle.dml_exec.specs.Free.{free_in_axis, free_in_axes, free_in_op, free_in, with_all}
use Rattle.dml_compile.specs.Values.{FormulaTree}
use Rattle.dml_compile.specs.NamedFormulas.{level_formulas, named_formulas, formula_dimensions, AreAsNamed, AllAreAsNamed}
use Rattle.dml_compile.specs.TreeKinds.{wanted_in}
use Rattle.dml_compile.specs.inside.Emitted.{FormulaCode, Emitted, axis_of, fixed_in, moved_axis, moved_name, moved, formula_ops, joint_op, level_emitted, emitted, formula_code, emitted_one, no_place, na_place}
use Rattle.dml_compile.proofs.Appearances.{Same, same_append, same_filtered, filtered_once, first_are}

-- ---- names

module _ (fixes : List FixedValue) where
  abbrev is_free : ℕ → Truth
  is_free d = not (is_fixed_at fixes d)

axis_is_at : (fixes : List FixedValue) (number d : ℕ) → free_in_axis (axis_of fixes number d) ≡ cond (is_free fixes d) (d ∷ []) []
axis_is_at [] number d = refl
axis_is_at (fix ∷ fixes) number d = by (eqb fix.dimension d) (axis_is_at fixes (number + 1) d)
  where
    by : (t : Truth) → free_in_axis (axis_of fixes (number + 1) d) ≡ cond (is_free fixes d) (d ∷ []) [] → free_in_axis (cond t (Fixed number) (axis_of fixes (number + 1) d)) ≡ cond (not (t || is_fixed_at fixes d)) (d ∷ []) []
    by true later = refl
    by false later = later

name_is_at : (fixes : List FixedValue) (d : ℕ) → free_in_op (moved_name d (fixed_in fixes d)) ≡ cond (is_free fixes d) (d ∷ []) []
name_is_at [] d = refl
name_is_at (fix ∷ fixes) d = by (eqb fix.dimension d) (name_is_at fixes d)
  where
    by : (t : Truth) → free_in_op (moved_name d (fixed_in fixes d)) ≡ cond (is_free fixes d) (d ∷ []) [] → free_in_op (moved_name d (cond t (Some fix) (fixed_in fixes d))) ≡ cond (not (t || is_fixed_at fixes d)) (d ∷ []) []
    by true later = refl
    by false later = later

onto : (b : Truth) (d : ℕ) (rest : List ℕ) → cond b (d ∷ []) [] ++ rest ≡ cond b (d ∷ rest) rest
onto true d rest = refl
onto false d rest = refl

both_are : (a b c d : List ℕ) → a ≡ b → c ≡ d → a ++ c ≡ b ++ d
both_are a b c d e f = ap (λ (xs : List ℕ). xs ++ c) e ∙ ap (λ (xs : List ℕ). b ++ xs) f

loaded_at : (fixes : List FixedValue) (number : ℕ) (ds : List ℕ) → free_in_axes (map (axis_of fixes number) ds) ≡ filter (is_free fixes) ds
loaded_at fixes number [] = refl
loaded_at fixes number (d ∷ ds) =
    both_are (free_in_axis (axis_of fixes number d)) (cond (is_free fixes d) (d ∷ []) []) (free_in_axes (map (axis_of fixes number) ds)) (filter (is_free fixes) ds) (axis_is_at fixes number d) (loaded_at fixes number ds)
    ∙ onto (is_free fixes d) d (filter (is_free fixes) ds)

module _ (fixes : List FixedValue) (start base first : ℕ) where
  moved_axis_at : (axis : Axis) → free_in_axis (moved_axis fixes base first axis) ≡ filter (is_free fixes) (free_in_axis axis)
  moved_axis_at (Fixed fix) = refl
  moved_axis_at (Free d) = axis_is_at fixes first d

  moved_axes_at : (axes : List Axis) → free_in_axes (map (moved_axis fixes base first) axes) ≡ filter (is_free fixes) (free_in_axes axes)
  moved_axes_at [] = refl
  moved_axes_at (axis ∷ axes) =
      both_are (free_in_axis (moved_axis fixes base first axis)) (filter (is_free fixes) (free_in_axis axis)) (free_in_axes (map (moved_axis fixes base first) axes)) (filter (is_free fixes) (free_in_axes axes)) (moved_axis_at axis) (moved_axes_at axes)
      ∙ sym (filter-append (is_free fixes) (free_in_axis axis) (free_in_axes axes))

  moved_op_at : (op : Op) → free_in_op (moved fixes start base first op) ≡ filter (is_free fixes) (free_in_op op)
  moved_op_at (Load object axes) = moved_axes_at axes
  moved_op_at (Name d) = name_is_at fixes d
  moved_op_at (Branch at_no at_na) = refl
  moved_op_at (Jump to) = refl
  moved_op_at _ = refl

  moved_at : (ops : List Op) → free_in (map (moved fixes start base first) ops) ≡ filter (is_free fixes) (free_in ops)
  moved_at [] = refl
  moved_at (op ∷ ops) =
      both_are (free_in_op (moved fixes start base first op)) (filter (is_free fixes) (free_in_op op)) (free_in (map (moved fixes start base first) ops)) (filter (is_free fixes) (free_in ops)) (moved_op_at op) (moved_at ops)
      ∙ sym (filter-append (is_free fixes) (free_in_op op) (free_in ops))

free_append : (xs ys : List Op) → free_in (xs ++ ys) ≡ free_in xs ++ free_in ys
free_append [] ys = refl
free_append (op ∷ xs) ys =
    ap (λ (l : List ℕ). free_in_op op ++ l) (free_append xs ys) ∙ sym (append_assoc (free_in_op op) (free_in xs) (free_in ys))

-- ---- the levels of a tree

-- ops are at the places of these dimensions, in this order
abbrev IsAt : Emitted → List ℕ → Type 0
IsAt e ds = (wanted : Kind) (start base : ℕ) → Same (free_in (e.ops wanted start base)) ds

same_by : (xs ys ds : List ℕ) → xs ≡ ys → Same ys ds → Same xs ds
same_by xs ys ds e h before = ap (λ (l : List ℕ). with_all before l) e ∙ h before

-- ops that lie over these dimensions, and others behind them that lie over those
both_at : (xs ys : List Op) (a b : List ℕ) → Same (free_in xs) a → Same (free_in ys) b → Same (free_in (xs ++ ys)) (a ++ b)
both_at xs ys a b h k = same_by (free_in (xs ++ ys)) (free_in xs ++ free_in ys) (a ++ b) (free_append xs ys) (same_append (free_in xs) (free_in ys) a b h k)

-- ops behind them that lie over none
none_behind : (xs ys : List Op) (a : List ℕ) → Same (free_in xs) a → free_in ys ≡ [] → Same (free_in (xs ++ ys)) a
none_behind xs ys a h none before =
    ap (λ (l : List ℕ). with_all before l) (free_append xs ys ∙ ap (λ (l : List ℕ). free_in xs ++ l) none)
    ∙ same_append (free_in xs) [] a [] h (λ b. refl) before
    ∙ ap (λ (l : List ℕ). with_all before l) (append-nil a)

free_joint : (j : Joint) → free_in (joint_op j ∷ []) ≡ []
free_joint joint.Or = refl
free_joint joint.And = refl
free_joint (joint.Compare order) = refl
free_joint joint.Add = refl
free_joint joint.Sub = refl
free_joint joint.Mul = refl
free_joint joint.Div = refl
free_joint joint.Min = refl
free_joint joint.Max = refl
free_joint joint.NaFill = refl

one_at : (op : Op) (kind : Kind) (e : Emitted) (ds : List ℕ) → free_in (op ∷ []) ≡ [] → IsAt e ds → IsAt (emitted_one op kind e) ds
one_at op kind e ds none h = λ wanted start base. none_behind (e.ops kind start base) (op ∷ []) ds (h kind start base) none

joined_at : (formula : ℕ → FormulaCode) (j : Joint) (met : ValueType) (left right : Emitted) (a b : List ℕ) → IsAt left a → IsAt right b → IsAt (level_emitted formula (Tree-F.Joined j met left right)) (a ++ b)
joined_at formula j met left right a b h k = λ wanted start base.
    let kind : Kind = wanted_in met wanted in
    let one : List Op = left.ops (wanted_in met wanted) start base in
    let two : List Op = right.ops (wanted_in met wanted) (start + length one) (base + length left.fixes) in
    both_at one (two ++ joint_op j ∷ []) a b (h kind start base)
    (none_behind two (joint_op j ∷ []) b (k kind (start + length one) (base + length left.fixes)) (free_joint j))

choice_at : (formula : ℕ → FormulaCode) (met : ValueType) (condition first second : Emitted) (a b c : List ℕ) → IsAt condition a → IsAt first b → IsAt second c → IsAt (level_emitted formula (Tree-F.If met condition first second)) (a ++ (b ++ c))
choice_at formula met condition first second a b c h k l = λ wanted start base.
    let kind : Kind = wanted_in met wanted in
    let test : List Op = condition.ops BOOLEAN start base in
    let at : ℕ = start + length test in
    let one : List Op = first.ops (wanted_in met wanted) (start + length test + 1) (base + length condition.fixes) in
    let two : List Op = second.ops (wanted_in met wanted) (no_place (start + length test) one) (base + length condition.fixes + length first.fixes) in
    let jump : Op = Jump (na_place (start + length test) one two + 1) in
    both_at test (Branch (no_place at one) (na_place at one two) ∷ (one ++ jump ∷ (two ++ jump ∷ Push Na kind ∷ []))) a (b ++ c) (h BOOLEAN start base)
    (both_at one (jump ∷ (two ++ jump ∷ Push Na kind ∷ [])) b c (k kind (at + 1) (base + length condition.fixes))
    (none_behind two (jump ∷ Push Na kind ∷ []) c (l kind (no_place at one) (base + length condition.fixes + length first.fixes)) refl))

-- ---- trees

abbrev Each : (Taken → Type 0) → List Taken → Type 0
Each P [] = Unit {0}
Each P (taken ∷ more) = P taken × Each P more

each_from_all : (P : Taken → Type 0) (xs : List Taken) → All P xs → Each P xs
each_from_all P [] h = tt
each_from_all P (x ∷ xs) h = (h 0 x (omega arith), each_from_all P xs (λ k d less. h (suc k) d (omega (arith, less))))

each_front : (P : Taken → Type 0) (xs ys : List Taken) → Each P (xs ++ ys) → Each P xs
each_front P [] ys h = tt
each_front P (x ∷ xs) ys h = (h.0, each_front P xs ys h.1)

each_back : (P : Taken → Type 0) (xs ys : List Taken) → Each P (xs ++ ys) → Each P ys
each_back P [] ys h = h
each_back P (x ∷ xs) ys h = each_back P xs ys h.1

module _ (formula : ℕ → FormulaCode) (dimensions : ℕ → List ℕ) (codes : (object : ℕ) → Same (free_in (formula object).ops) (dimensions object)) where
  abbrev IsNamed : Taken → Type 0
  IsNamed taken = taken.dimensions ≡ first_appearances (dimensions taken.object)

  abbrev TreeAt : Tree → Type 0
  TreeAt t = Each IsNamed (named_formulas t) → IsAt (emitted formula t) (tree_dimensions t)

  LevelAt : Tree-F Tree → Type 0
  LevelAt z = Each IsNamed (level_formulas (map-Tree Tree (List Taken) named_formulas z)) → IsAt (level_emitted formula (map-Tree Tree Emitted (emitted formula) z)) (level_dimensions (map-Tree Tree (List ℕ) tree_dimensions z))

  load_at : (taken : Taken) (number : ℕ) → free_in_axes (map (axis_of taken.fixes number) taken.dimensions) ++ [] ≡ taken_dimensions taken
  load_at taken number = append-nil (free_in_axes (map (axis_of taken.fixes number) taken.dimensions)) ∙ loaded_at taken.fixes number taken.dimensions

  formula_at : (taken : Taken) → IsNamed taken → (start base : ℕ) → Same (free_in (formula_ops (formula taken.object) taken start base)) (taken_dimensions taken)
  formula_at taken is start base before =
      let code : FormulaCode = formula taken.object in
      ap (λ (l : List ℕ). with_all before l) (moved_at taken.fixes start base (base + length code.fixes) code.ops)
      ∙ same_filtered (is_free taken.fixes) (free_in code.ops) (dimensions taken.object) (codes taken.object) before
      ∙ sym (filtered_once (is_free taken.fixes) (dimensions taken.object) before)
      ∙ ap (λ (l : List ℕ). with_all before (filter (is_free taken.fixes) l)) (first_are (dimensions taken.object) ∙ sym is)

  level_at : (y : Tree-F ((t : Tree) × TreeAt t)) → LevelAt (map-Tree ((t : Tree) × TreeAt t) Tree (λ e. e.0) y)
  unfolding LevelAt
  level_at (Tree-F.Literal cell) = λ named wanted start base before. refl
  level_at (Tree-F.Local number kind) = λ named wanted start base before. refl
  level_at (Tree-F.Dimension dimension) = λ named wanted start base before. refl
  level_at (Tree-F.Variable kind taken) = λ named wanted start base before. ap (λ (l : List ℕ). with_all before l) (load_at taken base)
  level_at (Tree-F.Relation target taken) = λ named wanted start base before. ap (λ (l : List ℕ). with_all before l) (load_at taken base)
  level_at (Tree-F.Formula kind taken) = λ named wanted start base. formula_at taken named.0 start base
  level_at (Tree-F.Not e) = λ named. one_at Not BOOLEAN (emitted formula e.0) (tree_dimensions e.0) refl (e.1 named)
  level_at (Tree-F.Negative kind e) = λ named. one_at Neg kind (emitted formula e.0) (tree_dimensions e.0) refl (e.1 named)
  level_at (Tree-F.Abs kind e) = λ named. one_at Abs kind (emitted formula e.0) (tree_dimensions e.0) refl (e.1 named)
  level_at (Tree-F.AsNumber e) = λ named. one_at (Convert NUMBER) INTEGER (emitted formula e.0) (tree_dimensions e.0) refl (e.1 named)
  level_at (Tree-F.Joined j met e f) = λ named.
      joined_at formula j met (emitted formula e.0) (emitted formula f.0) (tree_dimensions e.0) (tree_dimensions f.0)
      (e.1 (each_front IsNamed (named_formulas e.0) (named_formulas f.0) named))
      (f.1 (each_back IsNamed (named_formulas e.0) (named_formulas f.0) named))
  level_at (Tree-F.If met e f g) = λ named.
      let behind = each_back IsNamed (named_formulas e.0) (named_formulas f.0 ++ named_formulas g.0) named in
      choice_at formula met (emitted formula e.0) (emitted formula f.0) (emitted formula g.0) (tree_dimensions e.0) (tree_dimensions f.0) (tree_dimensions g.0)
      (e.1 (each_front IsNamed (named_formulas e.0) (named_formulas f.0 ++ named_formulas g.0) named))
      (f.1 (each_front IsNamed (named_formulas f.0) (named_formulas g.0) behind))
      (g.1 (each_back IsNamed (named_formulas f.0) (named_formulas g.0) behind))

  rolled : (x : Tree-F Tree) → LevelAt x → TreeAt (roll-Tree x)
  unfolding LevelAt
  rolled x h named =
      subst (λ (ds : List ℕ). IsAt (emitted formula (roll-Tree x)) ds) (sym (fold-roll-Tree (List ℕ) level_dimensions x))
      (subst (λ (e : Emitted). IsAt e (level_dimensions (map-Tree Tree (List ℕ) tree_dimensions x))) (sym (fold-roll-Tree Emitted (level_emitted formula) x))
      (h (subst (Each IsNamed) (fold-roll-Tree (List Taken) level_formulas x) named)))

  tree_at : (t : Tree) → TreeAt t
  tree_at = ind-Tree TreeAt (λ x y is. rolled x (subst LevelAt is (level_at y)))

-- ---- formulas

formula_codes_at : (formulas : List FormulaTree) → AllAreAsNamed formulas → (object : ℕ) → Same (free_in (formula_code formulas object).ops) (formula_dimensions formulas object)
formula_codes_at [] all object = λ before. refl
formula_codes_at (formula ∷ earlier) all object =
    by (eqb formula.object object) (formula_codes_at earlier all.1)
  where
    by : (t : Truth) → ((other : ℕ) → Same (free_in (formula_code earlier other).ops) (formula_dimensions earlier other)) → Same (free_in (cond t (record { ops = (emitted (formula_code earlier) formula.tree).ops formula.kind 0 0; fixes = (emitted (formula_code earlier) formula.tree).fixes }) (formula_code earlier object)).ops) (cond t (tree_dimensions formula.tree) (formula_dimensions earlier object))
    by true before =
        tree_at (formula_code earlier) (formula_dimensions earlier) before formula.tree
        (each_from_all (λ (taken : Taken). taken.dimensions ≡ first_appearances (formula_dimensions earlier taken.object)) (named_formulas formula.tree) all.0)
        formula.kind 0 0
    by false before = before object

-- the free dimensions of the ops of a tree
pub tree_is_at : (formulas : List FormulaTree) (tree : Tree) (kind : Kind) → AllAreAsNamed formulas → AreAsNamed formulas tree → with_all [] (free_in ((emitted (formula_code formulas) tree).ops kind 0 0)) ≡ first_appearances (tree_dimensions tree)
tree_is_at formulas tree kind all named =
    tree_at (formula_code formulas) (formula_dimensions formulas) (formula_codes_at formulas all) tree
    (each_from_all (λ (taken : Taken). taken.dimensions ≡ first_appearances (formula_dimensions formulas taken.object)) (named_formulas tree) named)
    kind 0 0 []
    ∙ first_are (tree_dimensions tree)
