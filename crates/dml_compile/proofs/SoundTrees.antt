-- The ops of a tree that is of a kind are accepted, and leave a cell of this kind.
use Rattle.std.proofs.Common.{◌≡◌, ◌∙◌, ℕ, suc, ◌+◌, ◌≤◌, ◌&&◌, Bool as Truth, true, false, cond, eqb, List, [], ◌∷◌, ◌++◌, length, map, Option, Some, None, refl, sym, ap, subst, arith, length-append}
use Rattle.std.specs.Prelude.{slice_get}
use Rattle.std.proofs.lemmas.Bool.{and_parts, false≢true}
use Rattle.aw_cell.specs.declared.cell.Cell.TheVariants.{Na}
use Rattle.aw_cell.specs.declared.cell.Kind.{Kind}
use Rattle.aw_cell.specs.declared.cell.Kind.TheVariants.{Num as NUMBER, Int as INTEGER, Text as TEXT, Bool as BOOLEAN, Slot as SLOT}
use Rattle.aw_page.specs.Fitting.{is_of_kind}
use Rattle.dml_tree.specs.declared.expr.Joint.{Joint}
use Rattle.dml_tree.specs.declared.expr.Joint.TheVariants as joint
use Rattle.dml_kinds.specs.declared.types.ValueType.{ValueType}
use Rattle.dml_kinds.specs.declared.tree.FixedValue.{FixedValue}
use Rattle.dml_kinds.specs.declared.tree.Taken.{Taken}
use Rattle.dml_kinds.specs.declared.tree.Tree.{Tree, roll-Tree, map-Tree}
use Rattle.dml_kinds.specs.declared.tree.Tree.TheOpen.{Tree-F}
use Rattle.dml_kinds.specs.declared.tree.Tree.TheFolds.{fold-roll-Tree, ind-Tree}
use Rattle.dml_exec.specs.declared.kinds.Kinds.{Kinds}
use Rattle.dml_exec.specs.declared.kinds.ObjectKind.{ObjectKind}
use Rattle.dml_exec.specs.declared.op.Axis.{Axis}
use Rattle.dml_exec.specs.declared.op.Axis.TheVariants.{Free}
use Rattle.dml_exec.specs.declared.op.Op.{Op}
use Rattle.dml_exec.specs.declared.op.Op.TheVariants.{Push, Local, Name, NameOf, Neg, Abs, Convert, Not, Branch, Jump}
use Rattle.dml_exec.specs.declared.operator.Unary.{Unary}
use Rattle.dml_exec.specs.declared.operator.Unary.TheVariants.{Neg as Negates, Abs as Sizes, Convert as Converts, Not as Inverts}
use Rattle.dml_exec.specs.Operators.{when, kind_of_one, kind_of_two}
use Rattle.dml_exec.specs.Verified.{Rules, rules_of, kind_read, kind_named, kind_pushed, kinds_on_one, kinds_on_two, onward, IsSound}
use Rattle.dml_compile.specs.Values.{FormulaTree}
use Rattle.dml_compile.specs.Compiled.{fixes_of}
use Rattle.dml_compile.specs.TreeKinds.{same_kind, is_kind, wanted_in, operator_of, joined_is, kind_taken, level_is, tree_is, formula_is, AreOfKinds}
use Rattle.dml_compile.specs.inside.Emitted.{FormulaCode, Emitted, axis_of, load, moved_axis, joint_op, no_place, na_place, choice_ops, emitted_one, level_emitted, emitted, formula_code}
use Rattle.dml_compile.proofs.SoundOps.{Flows, op_flows, flows_then, choice_flows, is_sound}
use Rattle.dml_compile.proofs.MovedKinds.{read_moved, ops_length, flows_moved}

-- ---- kinds

pub same_is : (one other : Kind) → same_kind one other ≡ true → one ≡ other
same_is NUMBER NUMBER e = refl
same_is INTEGER INTEGER e = refl
same_is TEXT TEXT e = refl
same_is BOOLEAN BOOLEAN e = refl
same_is SLOT SLOT e = refl
same_is _ _ e = absurd (false≢true e)

kind_is : (kind : Kind) (found : Option Kind) → is_kind kind found ≡ true → found ≡ Some kind
kind_is kind None e = absurd (false≢true e)
kind_is kind (Some own) e = ap (λ (k : Kind). Some k) (same_is own kind e)

-- ---- ops

-- ops that leave a cell of each kind that is fit, wherever they stand
abbrev pub Sound : Kinds → (Kind → Truth) → Emitted → Type 0
Sound kinds fits e =
    (kind : Kind) → fits kind ≡ true → (fixes : ℕ) (ops : List Op) (stack : List Kind) (start base : ℕ) → base + length e.fixes ≤ fixes
    → start + length (e.ops kind start base) ≤ length ops → Flows (rules_of kinds fixes ops) start (e.ops kind start base) stack (kind ∷ stack)

pushes : (r : Rules) (start : ℕ) (op : Op) (stack : List Kind) (kind : Kind) (found : Option Kind) → onward r start op stack ≡ kind_pushed stack found → found ≡ Some kind → Flows r start (op ∷ []) stack (kind ∷ stack)
pushes r start op stack kind found same is = op_flows r start op stack (kind ∷ stack) (same ∙ ap (kind_pushed stack) is)

module _ (kinds : Kinds) where
  one_sound : (operator : Unary) (op : Op) (own : Kind) (fits : Kind → Truth) (e : Emitted) → ((r : Rules) (at : ℕ) (s : List Kind) → onward r at op s ≡ kinds_on_one operator s) → Sound kinds fits e → Sound kinds (λ kind. fits own && is_kind kind (kind_of_one operator own)) (emitted_one op own e)
  one_sound operator op own fits e turns h = λ kind is fixes ops stack start base room within.
      let r : Rules = rules_of kinds fixes ops in
      let both = and_parts (fits own) (is_kind kind (kind_of_one operator own)) is in
      let operand : start + length (e.ops own start base) ≤ length ops = omega (arith, length-append (e.ops own start base) (op ∷ []), within) in
      flows_then r start (e.ops own start base) (op ∷ []) stack (own ∷ stack) (kind ∷ stack)
      (h own both.0 fixes ops stack start base room operand)
      (op_flows r (start + length (e.ops own start base)) op (own ∷ stack) (kind ∷ stack)
      (turns r (start + length (e.ops own start base)) (own ∷ stack) ∙ ap (kind_pushed stack) (kind_is kind (kind_of_one operator own) both.1)))

  joint_turns : (j : Joint) (r : Rules) (at : ℕ) (s : List Kind) → onward r at (joint_op j) s ≡ kinds_on_two (operator_of j) s
  joint_turns joint.Or r at s = refl
  joint_turns joint.And r at s = refl
  joint_turns (joint.Compare order) r at s = refl
  joint_turns joint.Add r at s = refl
  joint_turns joint.Sub r at s = refl
  joint_turns joint.Mul r at s = refl
  joint_turns joint.Div r at s = refl
  joint_turns joint.Min r at s = refl
  joint_turns joint.Max r at s = refl
  joint_turns joint.NaFill r at s = refl

  joined_sound : (j : Joint) (met : ValueType) (one other : Kind → Truth) (left right : Emitted) (formula : ℕ → FormulaCode) → Sound kinds one left → Sound kinds other right → Sound kinds (λ kind. one (wanted_in met kind) && (other (wanted_in met kind) && joined_is j kind (wanted_in met kind))) (level_emitted formula (Tree-F.Joined j met left right))
  joined_sound j met one other left right formula h k = λ kind is fixes ops stack start base room within.
      let r : Rules = rules_of kinds fixes ops in
      let own : Kind = wanted_in met kind in
      let first : List Op = left.ops (wanted_in met kind) start base in
      let second : List Op = right.ops (wanted_in met kind) (start + length (left.ops (wanted_in met kind) start base)) (base + length left.fixes) in
      let both = and_parts (one own) (other own && joined_is j kind own) is in
      let others = and_parts (other own) (joined_is j kind own) both.1 in
      let len = length-append first (second ++ joint_op j ∷ []) in
      let len_two = length-append second (joint_op j ∷ []) in
      let fixes_len = length-append left.fixes right.fixes in
      flows_then r start first (second ++ joint_op j ∷ []) stack (own ∷ stack) (kind ∷ stack)
      (h own both.0 fixes ops stack start base (omega (arith, fixes_len, room)) (omega (arith, len, within)))
      (flows_then r (start + length first) second (joint_op j ∷ []) (own ∷ stack) (own ∷ own ∷ stack) (kind ∷ stack)
      (k own others.0 fixes ops (own ∷ stack) (start + length first) (base + length left.fixes) (omega (arith, fixes_len, room)) (omega (arith, len, len_two, within)))
      (op_flows r (start + length first + length second) (joint_op j) (own ∷ own ∷ stack) (kind ∷ stack)
      (joint_turns j r (start + length first + length second) (own ∷ own ∷ stack) ∙ ap (kind_pushed stack) (kind_is kind (kind_of_two (operator_of j) own own) others.1))))

  choice_length : (kind : Kind) (at : ℕ) (condition one two : List Op) → length (choice_ops kind at condition one two) ≡ length condition + 1 + length one + 1 + length two + 1 + 1
  choice_length kind at condition one two =
      let jump : Op = Jump (na_place at one two + 1) in
      let tail : List Op = jump ∷ Push Na kind ∷ [] in
      omega (arith, length-append condition (Branch (no_place at one) (na_place at one two) ∷ (one ++ jump ∷ (two ++ tail))), length-append one (jump ∷ (two ++ tail)), length-append two tail)

  choice_sound : (met : ValueType) (test one other : Kind → Truth) (condition first second : Emitted) (formula : ℕ → FormulaCode) → Sound kinds test condition → Sound kinds one first → Sound kinds other second → Sound kinds (λ kind. test BOOLEAN && (one (wanted_in met kind) && (other (wanted_in met kind) && same_kind (wanted_in met kind) kind))) (level_emitted formula (Tree-F.If met condition first second))
  choice_sound met test one other condition first second formula h k l = λ kind is fixes ops stack start base room within.
      let r : Rules = rules_of kinds fixes ops in
      let own : Kind = wanted_in met kind in
      let tested : List Op = condition.ops BOOLEAN start base in
      let chosen : List Op = first.ops (wanted_in met kind) (start + length (condition.ops BOOLEAN start base) + 1) (base + length condition.fixes) in
      let left : List Op = second.ops (wanted_in met kind) (no_place (start + length (condition.ops BOOLEAN start base)) (first.ops (wanted_in met kind) (start + length (condition.ops BOOLEAN start base) + 1) (base + length condition.fixes))) (base + length condition.fixes + length first.fixes) in
      let both = and_parts (test BOOLEAN) (one own && (other own && same_kind own kind)) is in
      let others = and_parts (one own) (other own && same_kind own kind) both.1 in
      let last = and_parts (other own) (same_kind own kind) others.1 in
      let len = choice_length own (start + length tested) tested chosen left in
      let fixes_len = length-append condition.fixes (first.fixes ++ second.fixes) in
      let fixes_two = length-append first.fixes second.fixes in
      subst (λ (k : Kind). Flows r start (choice_ops own (start + length tested) tested chosen left) stack (k ∷ stack)) (same_is own kind last.1)
      (choice_flows r own start tested chosen left stack
      (h BOOLEAN both.0 fixes ops stack start base (omega (arith, fixes_len, room)) (omega (arith, len, within)))
      (k own others.0 fixes ops stack (start + length tested + 1) (base + length condition.fixes) (omega (arith, fixes_len, fixes_two, room)) (omega (arith, len, within)))
      (l own last.0 fixes ops stack (no_place (start + length tested) chosen) (base + length condition.fixes + length first.fixes) (omega (arith, fixes_len, fixes_two, room)) (omega (arith, len, within)))
      within)

  -- ---- names

  fixes_length : (values : List FixedValue) → length (fixes_of values) ≡ length values
  fixes_length [] = refl
  fixes_length (value ∷ values) = ap suc (fixes_length values)

  free_moved : (values : List FixedValue) (base first : ℕ) (dimensions : List ℕ) → map (moved_axis values base first) (map Free dimensions) ≡ map (axis_of values first) dimensions
  free_moved values base first [] = refl
  free_moved values base first (d ∷ dimensions) = ap (λ (axes : List Axis). axis_of values first d ∷ axes) (free_moved values base first dimensions)

  load_is : (formula : ℕ → Kind → Truth) (fixes base : ℕ) (taken : Taken) (kind : Kind) → base + length (fixes_of taken.fixes) ≤ fixes → is_kind kind (kind_taken kinds formula taken) ≡ true → kind_read kinds fixes (map (axis_of taken.fixes base) taken.dimensions) (slice_get kinds.objects taken.object) ≡ Some kind
  load_is formula fixes base taken kind room is =
      ap (λ (axes : List Axis). kind_read kinds fixes axes (slice_get kinds.objects taken.object)) (sym (free_moved taken.fixes base base taken.dimensions))
      ∙ read_moved kinds 0 fixes base base taken.fixes (omega (arith, room)) (omega (arith, fixes_length taken.fixes, room)) (slice_get kinds.objects taken.object) (map Free taken.dimensions) kind
      (kind_is kind (kind_taken kinds formula taken) is)

  -- ---- trees, over formulas whose code is sound

  -- the code of a formula leaves a cell of each kind that is fit
  abbrev pub CodeSound : FormulaCode → (Kind → Truth) → Type 0
  CodeSound code fits = (kind : Kind) → fits kind ≡ true → Flows (rules_of (record { objects = kinds.objects; locals = [] }) (length code.fixes) code.ops) 0 code.ops [] (kind ∷ [])

  module _ (formula : ℕ → FormulaCode) (fits : ℕ → Kind → Truth) (codes : (object : ℕ) → CodeSound (formula object) (fits object)) where
    formula_sound : (own : Kind) (taken : Taken) → Sound kinds (λ kind. fits taken.object kind) (level_emitted formula (Tree-F.Formula own taken))
    formula_sound own taken = λ kind is fixes ops stack start base room within.
        let code : FormulaCode = formula taken.object in
        let len = length-append code.fixes (fixes_of taken.fixes) in
        flows_moved kinds.objects kinds.locals (length code.fixes) fixes base (base + length code.fixes) start taken.fixes code.ops ops
        (omega (arith, len, room)) (omega (arith, len, fixes_length taken.fixes, room))
        (omega (arith, ops_length taken.fixes start base (base + length code.fixes) code.ops, within))
        stack kind (codes taken.object kind is)

    abbrev TreeSound : Tree → Type 0
    TreeSound t = Sound kinds (tree_is kinds fits t) (emitted formula t)

    LevelSound : Tree-F Tree → Type 0
    LevelSound z = Sound kinds (level_is kinds fits (map-Tree Tree (Kind → Truth) (tree_is kinds fits) z)) (level_emitted formula (map-Tree Tree Emitted (emitted formula) z))

    level_sound : (y : Tree-F ((t : Tree) × TreeSound t)) → LevelSound (map-Tree ((t : Tree) × TreeSound t) Tree (λ e. e.0) y)
    unfolding LevelSound
    level_sound (Tree-F.Literal cell) = λ kind is fixes ops stack start base room within.
        pushes (rules_of kinds fixes ops) start (Push cell kind) stack kind (when (is_of_kind kind cell) kind) refl (ap (λ (t : Truth). when t kind) is)
    level_sound (Tree-F.Local number own) = λ kind is fixes ops stack start base room within.
        pushes (rules_of kinds fixes ops) start (Local number) stack kind (slice_get kinds.locals number) refl (kind_is kind (slice_get kinds.locals number) is)
    level_sound (Tree-F.Dimension dimension) = λ kind is fixes ops stack start base room within.
        pushes (rules_of kinds fixes ops) start (Name dimension) stack kind (kind_named kinds dimension) refl (kind_is kind (kind_named kinds dimension) is)
    level_sound (Tree-F.Variable own taken) = λ kind is fixes ops stack start base room within.
        pushes (rules_of kinds fixes ops) start (load taken base) stack kind (kind_read kinds fixes (map (axis_of taken.fixes base) taken.dimensions) (slice_get kinds.objects taken.object)) refl (load_is fits fixes base taken kind room is)
    level_sound (Tree-F.Relation target taken) = λ kind is fixes ops stack start base room within.
        let r = rules_of kinds fixes ops in
        let both = and_parts (is_kind SLOT (kind_taken kinds fits taken)) (is_kind kind (kind_named kinds target)) is in
        flows_then r start (load taken base ∷ []) (NameOf target ∷ []) stack (SLOT ∷ stack) (kind ∷ stack)
        (pushes r start (load taken base) stack SLOT (kind_read kinds fixes (map (axis_of taken.fixes base) taken.dimensions) (slice_get kinds.objects taken.object)) refl (load_is fits fixes base taken SLOT room both.0))
        (op_flows r (start + 1) (NameOf target) (SLOT ∷ stack) (kind ∷ stack) (ap (kind_pushed stack) (kind_is kind (kind_named kinds target) both.1)))
    level_sound (Tree-F.Formula own taken) = formula_sound own taken
    level_sound (Tree-F.Not e) = one_sound Inverts Not BOOLEAN (tree_is kinds fits e.0) (emitted formula e.0) (λ r at s. refl) e.1
    level_sound (Tree-F.Negative own e) = one_sound Negates Neg own (tree_is kinds fits e.0) (emitted formula e.0) (λ r at s. refl) e.1
    level_sound (Tree-F.Abs own e) = one_sound Sizes Abs own (tree_is kinds fits e.0) (emitted formula e.0) (λ r at s. refl) e.1
    level_sound (Tree-F.AsNumber e) = one_sound (Converts NUMBER) (Convert NUMBER) INTEGER (tree_is kinds fits e.0) (emitted formula e.0) (λ r at s. refl) e.1
    level_sound (Tree-F.Joined j met e f) = joined_sound j met (tree_is kinds fits e.0) (tree_is kinds fits f.0) (emitted formula e.0) (emitted formula f.0) formula e.1 f.1
    level_sound (Tree-F.If met e f g) =
        choice_sound met (tree_is kinds fits e.0) (tree_is kinds fits f.0) (tree_is kinds fits g.0) (emitted formula e.0) (emitted formula f.0) (emitted formula g.0) formula e.1 f.1 g.1

    rolled : (x : Tree-F Tree) → LevelSound x → TreeSound (roll-Tree x)
    unfolding LevelSound
    rolled x h =
        subst (λ (v : Kind → Truth). Sound kinds v (emitted formula (roll-Tree x))) (sym (fold-roll-Tree (Kind → Truth) (level_is kinds fits) x))
        (subst (λ (e : Emitted). Sound kinds (level_is kinds fits (map-Tree Tree (Kind → Truth) (tree_is kinds fits) x)) e) (sym (fold-roll-Tree Emitted (level_emitted formula) x)) h)

    pub tree_sound : (t : Tree) → TreeSound t
    tree_sound = ind-Tree TreeSound (λ x y is. rolled x (subst LevelSound is (level_sound y)))

-- ---- formulas

abbrev no_locals : List ObjectKind → Kinds
no_locals objects = record { objects = objects; locals = [] }

none_sound : (objects : List ObjectKind) → CodeSound (no_locals objects) (formula_code [] 0) (λ kind. same_kind INTEGER kind)
none_sound objects kind is =
    pushes (rules_of (no_locals objects) 0 (Push Na INTEGER ∷ [])) 0 (Push Na INTEGER) [] kind (Some INTEGER) refl (ap (λ (k : Kind). Some k) (same_is INTEGER kind is))

-- the code of each formula leaves a cell of its kind
pub formula_codes_sound : (objects : List ObjectKind) (formulas : List FormulaTree) → AreOfKinds objects formulas → (object : ℕ) → CodeSound (no_locals objects) (formula_code formulas object) (formula_is formulas object)
formula_codes_sound objects [] are object = none_sound objects
formula_codes_sound objects (formula ∷ earlier) are object = by (eqb formula.object object) (λ other. formula_codes_sound objects earlier are.1 other)
  where
    by : (t : Truth) → ((other : ℕ) → CodeSound (no_locals objects) (formula_code earlier other) (formula_is earlier other)) → CodeSound (no_locals objects) (cond t (record { ops = (emitted (formula_code earlier) formula.tree).ops formula.kind 0 0; fixes = (emitted (formula_code earlier) formula.tree).fixes }) (formula_code earlier object)) (λ kind. cond t (same_kind formula.kind kind) (formula_is earlier object kind))
    by true before = λ kind is.
        let code : Emitted = emitted (formula_code earlier) formula.tree in
        let fixes = (emitted (formula_code earlier) formula.tree).fixes in
        let ops : List Op = (emitted (formula_code earlier) formula.tree).ops formula.kind 0 0 in
        subst (λ (k : Kind). Flows (rules_of (no_locals objects) (length fixes) ops) 0 ops [] (k ∷ [])) (same_is formula.kind kind is)
        (tree_sound (no_locals objects) (formula_code earlier) (formula_is earlier) before formula.tree formula.kind are.0 (length fixes) ops [] 0 0 (omega arith) (omega arith))
    by false before = before object

-- ops of a tree that is of a kind are accepted
pub tree_ops_are_sound : (objects : List ObjectKind) (locals : List Kind) (formulas : List FormulaTree) (tree : Tree) (kind : Kind) → AreOfKinds objects formulas
    → tree_is (record { objects = objects; locals = locals }) (formula_is formulas) tree kind ≡ true
    → IsSound (rules_of (record { objects = objects; locals = locals }) (length (emitted (formula_code formulas) tree).fixes) ((emitted (formula_code formulas) tree).ops kind 0 0))
tree_ops_are_sound objects locals formulas tree kind are is =
    let kinds : Kinds = record { objects = objects; locals = locals } in
    let fixes = (emitted (formula_code formulas) tree).fixes in
    let ops : List Op = (emitted (formula_code formulas) tree).ops kind 0 0 in
    is_sound (rules_of kinds (length fixes) ops) kind
    (tree_sound kinds (formula_code formulas) (formula_is formulas) (formula_codes_sound objects formulas are) tree kind is (length fixes) ops [] 0 0 (omega arith) (omega arith))
