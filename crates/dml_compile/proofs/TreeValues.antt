-- The ops of a tree have its value.
use Rattle.std.proofs.Common.{◌≡◌, ℕ, ◌+◌, ◌&&◌, Bool as Truth, true, false, cond, eqb, List, [], ◌∷◌, ◌++◌, length, Some, Ok, refl, sym, ap, subst, arith, drop, ◌∙◌}
use Rattle.std.specs.Prelude.{slice_get}
use Rattle.aw_cell.specs.declared.cell.Cell.{Cell}
use Rattle.aw_cell.specs.declared.cell.Cell.TheVariants.{Na}
use Rattle.aw_cell.specs.declared.cell.Kind.{Kind}
use Rattle.aw_cell.specs.declared.cell.Kind.TheVariants.{Num as NUMBER, Int as INTEGER, Bool as BOOLEAN}
use Rattle.aw_cell.specs.CellArithmetic.{is_numeric, can_be_converted, converted, cell_sum, cell_difference, cell_product, cell_quotient, cell_negation, cell_size, cell_least, cell_greatest}
use Rattle.aw_cell.specs.Comparison.{can_be_compared, compared}
use Rattle.aw_cell.specs.Logic.{is_truth, both, either, negated}
use Rattle.dml_tree.specs.declared.expr.Joint.{Joint}
use Rattle.dml_tree.specs.declared.expr.Joint.TheVariants as joint
use Rattle.dml_kinds.specs.declared.types.ValueType.{ValueType}
use Rattle.dml_kinds.specs.declared.tree.Taken.{Taken}
use Rattle.dml_kinds.specs.declared.tree.Tree.{Tree, roll-Tree, map-Tree}
use Rattle.dml_kinds.specs.declared.tree.Tree.TheOpen.{Tree-F}
use Rattle.dml_kinds.specs.declared.tree.Tree.TheFolds.{fold-roll-Tree, ind-Tree}
use Rattle.dml_exec.specs.declared.kinds.Fix.{Fix}
use Rattle.dml_exec.specs.declared.op.Op.{Op}
use Rattle.dml_exec.specs.declared.op.Op.TheVariants.{Push, Neg, Abs, Convert, Not}
use Rattle.dml_exec.specs.declared.operator.Unary.{Unary}
use Rattle.dml_exec.specs.declared.operator.Unary.TheVariants.{Neg as Negates, Abs as Sizes, Convert as Converts, Not as Inverts}
use Rattle.dml_exec.specs.Operators.{when, of_one, of_two}
use Rattle.dml_exec.specs.Meaning.{CodeInputs, turn}
use Rattle.dml_compile.specs.Values.{Value, Seen, Place, at_fixes, joint_value, on_one, on_two, chosen, level_value, value, FormulaTree, formula_value}
use Rattle.dml_compile.specs.Compiled.{fixes_of, seen_by}
use Rattle.dml_compile.specs.TreeKinds.{wanted_in, operator_of}
use Rattle.dml_compile.specs.inside.Emitted.{FormulaCode, Emitted, joint_op, no_place, level_emitted, emitted, formula_code, emitted_one}
use Rattle.dml_compile.proofs.ValuesOfOps.{Told, stood, Computes, op_computes, one_computes, two_computes}
use Rattle.dml_compile.proofs.Choices.{choice_computes}
use Rattle.dml_compile.proofs.NamesOfTrees.{KnownAt, known_front, known_back, load_computes, relation_computes, name_computes, local_computes}
use Rattle.dml_compile.proofs.MovedOps.{inner, moved_computes, slice_get-behind}

-- ---- operators

told_when : (fits : Truth) (v : Value) → Told (when fits v) v
told_when true v = refl
told_when false v = tt

joint_told : (j : Joint) (a b : Cell) → Told (of_two (operator_of j) a b) (joint_value j a b)
joint_told joint.Or a b = told_when (is_truth a && is_truth b) (Ok (either a b))
joint_told joint.And a b = told_when (is_truth a && is_truth b) (Ok (both a b))
joint_told (joint.Compare order) a b = told_when (can_be_compared order a b) (Ok (compared order a b))
joint_told joint.Add a b = told_when (is_numeric a && is_numeric b) (cell_sum a b)
joint_told joint.Sub a b = told_when (is_numeric a && is_numeric b) (cell_difference a b)
joint_told joint.Mul a b = told_when (is_numeric a && is_numeric b) (cell_product a b)
joint_told joint.Div a b = told_when (is_numeric a && is_numeric b) (cell_quotient a b)
joint_told joint.Min a b = told_when (is_numeric a && is_numeric b) (cell_least a b)
joint_told joint.Max a b = told_when (is_numeric a && is_numeric b) (cell_greatest a b)
joint_told joint.NaFill a b = refl

joint_turns : (r : CodeInputs) (j : Joint) (at : ℕ) (cells : List Cell) (a b : Cell) → turn r at (joint_op j) (b ∷ a ∷ cells) ≡ stood (at + 1) cells (of_two (operator_of j) a b)
joint_turns r joint.Or at cells a b = refl
joint_turns r joint.And at cells a b = refl
joint_turns r (joint.Compare order) at cells a b = refl
joint_turns r joint.Add at cells a b = refl
joint_turns r joint.Sub at cells a b = refl
joint_turns r joint.Mul at cells a b = refl
joint_turns r joint.Div at cells a b = refl
joint_turns r joint.Min at cells a b = refl
joint_turns r joint.Max at cells a b = refl
joint_turns r joint.NaFill at cells a b = refl

-- ---- trees, over formulas whose code has their value

-- code of a formula has its value, where the slots of its fixed values were looked up
abbrev pub CodeHas : FormulaCode → (Seen → Place → Value) → Type 0
CodeHas code has = (r : CodeInputs) (slot : ℕ → List ℕ → ℕ) → KnownAt r slot 0 code.fixes → Computes r 0 code.ops (has (seen_by r slot) r.place)

-- a tree's ops have its value, wherever they stand, where the slots of its fixed values were looked up
abbrev Has : (r : CodeInputs) → (ℕ → List ℕ → ℕ) → Value → Emitted → Type 0
Has r slot v e = (wanted : Kind) (start base : ℕ) → KnownAt r slot base e.fixes → Computes r start (e.ops wanted start base) v

-- ---- the levels of a tree

one_has : (r : CodeInputs) (slot : ℕ → List ℕ → ℕ) (op : Op) (kind : Kind) (operator : Unary) (g : Cell → Value) (v : Value) (e : Emitted) → ((a : Cell) → Told (of_one operator a) (g a)) → ((at : ℕ) (cells : List Cell) (a : Cell) → turn r at op (a ∷ cells) ≡ stood (at + 1) cells (of_one operator a)) → Has r slot v e → Has r slot (on_one g v) (emitted_one op kind e)
one_has r slot op kind operator g v e fits turns h = λ wanted start base known.
    one_computes r start (e.ops kind start base) op v (of_one operator) g fits turns (h kind start base known)

joined_has : (r : CodeInputs) (slot : ℕ → List ℕ → ℕ) (j : Joint) (met : ValueType) (v w : Value) (left right : Emitted) → Has r slot v left → Has r slot w right → (formula : ℕ → FormulaCode) → Has r slot (on_two (joint_value j) v w) (level_emitted formula (Tree-F.Joined j met left right))
joined_has r slot j met v w left right h k formula = λ wanted start base known.
    let kind : Kind = wanted_in met wanted in
    two_computes r start (left.ops kind start base) (right.ops kind (start + length (left.ops kind start base)) (base + length left.fixes)) (joint_op j) v w
    (of_two (operator_of j)) (joint_value j) (joint_told j) (λ at cells a b. joint_turns r j at cells a b)
    (h kind start base (known_front r slot left.fixes right.fixes base known))
    (k kind (start + length (left.ops kind start base)) (base + length left.fixes) (known_back r slot left.fixes right.fixes base known))

choice_has : (r : CodeInputs) (slot : ℕ → List ℕ → ℕ) (met : ValueType) (c v w : Value) (condition first second : Emitted) → Has r slot c condition → Has r slot v first → Has r slot w second → (formula : ℕ → FormulaCode) → Has r slot (chosen c v w) (level_emitted formula (Tree-F.If met condition first second))
choice_has r slot met c v w condition first second h k l formula = λ wanted start base known.
    let kind : Kind = wanted_in met wanted in
    let test : List Op = condition.ops BOOLEAN start base in
    let one : List Op = first.ops (wanted_in met wanted) (start + length (condition.ops BOOLEAN start base) + 1) (base + length condition.fixes) in
    let behind = known_back r slot condition.fixes (first.fixes ++ second.fixes) base known in
    choice_computes r kind start test one
    (second.ops kind (no_place (start + length test) one) (base + length condition.fixes + length first.fixes)) c v w
    (h BOOLEAN start base (known_front r slot condition.fixes (first.fixes ++ second.fixes) base known))
    (k kind (start + length test + 1) (base + length condition.fixes) (known_front r slot first.fixes second.fixes (base + length condition.fixes) behind))
    (l kind (no_place (start + length test) one) (base + length condition.fixes + length first.fixes) (known_back r slot first.fixes second.fixes (base + length condition.fixes) behind))

literal_has : (r : CodeInputs) (slot : ℕ → List ℕ → ℕ) (cell : Cell) (formula : ℕ → FormulaCode) → Has r slot (Ok cell) (level_emitted formula (Tree-F.Literal cell))
literal_has r slot cell formula = λ wanted start base known. op_computes r start (Push cell wanted) (Some (Ok cell)) (Ok cell) refl (λ cells. refl)

-- what is known of fixed values stays known where those before them are left out
known_dropped : (r s : CodeInputs) (slot : ℕ → List ℕ → ℕ) (base number : ℕ) (fixes : List Fix) → s.fixed ≡ drop base r.fixed → s.name ≡ r.name → KnownAt r slot (base + number) fixes → KnownAt s slot number fixes
known_dropped r s slot base number [] e n h = tt
known_dropped r s slot base number (fix ∷ fixes) e n h =
    let next : base + number + 1 ≡ base + (number + 1) = omega arith in (
      ap (λ (xs : List ℕ). slice_get xs number) e ∙ sym (slice_get-behind r.fixed base number) ∙ h.0,
      ap (λ (name : ℕ → ℕ → Cell). name fix.dimension (slot fix.dimension fix.value)) n ∙ h.1,
      known_dropped r s slot base (number + 1) fixes e n (subst (λ (m : ℕ). KnownAt r slot m fixes) next h.2),
    )

module _ (formula : ℕ → FormulaCode) (means : Seen → ℕ → Place → Value) (codes : (object : ℕ) → CodeHas (formula object) (λ seen place. means seen object place)) (r : CodeInputs) (slot : ℕ → List ℕ → ℕ) where
  abbrev has : Tree → Value
  has = value (seen_by r slot) r.place (means (seen_by r slot))

  abbrev TreeHas : Tree → Type 0
  TreeHas t = Has r slot (has t) (emitted formula t)

  formula_has : (kind : Kind) (taken : Taken) → Has r slot (means (seen_by r slot) taken.object (at_fixes (seen_by r slot) taken.fixes r.place)) (level_emitted formula (Tree-F.Formula kind taken))
  formula_has kind taken = λ wanted start base known.
      let code : FormulaCode = formula taken.object in
      let own = known_back r slot code.fixes (fixes_of taken.fixes) base known in
      let front = known_front r slot code.fixes (fixes_of taken.fixes) base known in
      let inside : CodeInputs = inner r slot taken.fixes start base (base + length code.fixes) own in
      let here : base ≡ base + 0 = omega arith in
      moved_computes r slot taken.fixes start base (base + length code.fixes) own code.ops
      (means (seen_by r slot) taken.object (at_fixes (seen_by r slot) taken.fixes r.place))
      (codes taken.object inside slot (known_dropped r inside slot base 0 code.fixes refl refl (subst (λ (n : ℕ). KnownAt r slot n code.fixes) here front)))

  abbrev value_step : Tree-F Value → Value
  value_step = level_value (seen_by r slot) r.place (means (seen_by r slot))

  -- a level of a tree, whose parts have their values
  LevelHas : Tree-F Tree → Type 0
  LevelHas z = Has r slot (value_step (map-Tree Tree Value has z)) (level_emitted formula (map-Tree Tree Emitted (emitted formula) z))

  level_has : (y : Tree-F ((t : Tree) × TreeHas t)) → LevelHas (map-Tree ((t : Tree) × TreeHas t) Tree (λ e. e.0) y)
  unfolding LevelHas
  level_has (Tree-F.Literal cell) = literal_has r slot cell formula
  level_has (Tree-F.Local number kind) = λ wanted start base known. local_computes r slot number start
  level_has (Tree-F.Dimension dimension) = λ wanted start base known. name_computes r slot dimension start
  level_has (Tree-F.Variable kind taken) = λ wanted start base known. load_computes r slot taken start base known
  level_has (Tree-F.Relation target taken) = λ wanted start base known. relation_computes r slot taken target start base known
  level_has (Tree-F.Formula kind taken) = formula_has kind taken
  level_has (Tree-F.Not e) =
      one_has r slot Not BOOLEAN Inverts (λ a. Ok (negated a)) (has e.0) (emitted formula e.0) (λ a. told_when (is_truth a) (Ok (negated a))) (λ at cells a. refl) e.1
  level_has (Tree-F.Negative kind e) =
      one_has r slot Neg kind Negates cell_negation (has e.0) (emitted formula e.0) (λ a. told_when (is_numeric a) (cell_negation a)) (λ at cells a. refl) e.1
  level_has (Tree-F.Abs kind e) =
      one_has r slot Abs kind Sizes cell_size (has e.0) (emitted formula e.0) (λ a. told_when (is_numeric a) (cell_size a)) (λ at cells a. refl) e.1
  level_has (Tree-F.AsNumber e) =
      one_has r slot (Convert NUMBER) INTEGER (Converts NUMBER) (converted NUMBER) (has e.0) (emitted formula e.0) (λ a. told_when (can_be_converted NUMBER a) (converted NUMBER a)) (λ at cells a. refl) e.1
  level_has (Tree-F.Joined j met e f) = joined_has r slot j met (has e.0) (has f.0) (emitted formula e.0) (emitted formula f.0) e.1 f.1 formula
  level_has (Tree-F.If met e f g) =
      choice_has r slot met (has e.0) (has f.0) (has g.0) (emitted formula e.0) (emitted formula f.0) (emitted formula g.0) e.1 f.1 g.1 formula

  rolled : (x : Tree-F Tree) → LevelHas x → TreeHas (roll-Tree x)
  unfolding LevelHas
  rolled x h =
      subst (λ (v : Value). Has r slot v (emitted formula (roll-Tree x))) (sym (fold-roll-Tree Value value_step x))
      (subst (λ (e : Emitted). Has r slot (value_step (map-Tree Tree Value has x)) e) (sym (fold-roll-Tree Emitted (level_emitted formula) x)) h)

  pub tree_has : (t : Tree) → TreeHas t
  tree_has = ind-Tree TreeHas (λ x y is. rolled x (subst LevelHas is (level_has y)))

-- ---- formulas

none_has : CodeHas (formula_code [] 0) (λ seen place. formula_value seen [] 0 place)
none_has r slot known = op_computes r 0 (Push Na INTEGER) (Some (Ok Na)) (Ok Na) refl (λ cells. refl)

-- the code of each formula has its value
pub formula_codes : (formulas : List FormulaTree) (object : ℕ) → CodeHas (formula_code formulas object) (λ seen place. formula_value seen formulas object place)
formula_codes [] object = none_has
formula_codes (formula ∷ earlier) object =
    by (eqb formula.object object) (λ other. formula_codes earlier other)
  where
    by : (t : Truth) → ((other : ℕ) → CodeHas (formula_code earlier other) (λ seen place. formula_value seen earlier other place)) → CodeHas (cond t (record { ops = (emitted (formula_code earlier) formula.tree).ops formula.kind 0 0; fixes = (emitted (formula_code earlier) formula.tree).fixes }) (formula_code earlier object)) (λ seen place. cond t (value seen place (formula_value seen earlier) formula.tree) (formula_value seen earlier object place))
    by true before = λ r slot known. tree_has (formula_code earlier) (λ seen other place. formula_value seen earlier other place) before r slot formula.tree formula.kind 0 0 known
    by false before = before object
