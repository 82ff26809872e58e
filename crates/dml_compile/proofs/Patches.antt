-- The jumps of a choice are written after the ops that they pass.
use Rattle.std.proofs.Common.{◌≡◌, ◌∙◌, ℕ, ◌+◌, List, [], ◌∷◌, ◌++◌, length, sym, ap, arith, append_assoc, length-append}
use Rattle.std.specs.Prelude.{slice_set}
use Rattle.std.proofs.Math.Seq.{set-append_seam}
use Rattle.aw_cell.specs.declared.cell.Cell.TheVariants.{Na}
use Rattle.aw_cell.specs.declared.cell.Kind.{Kind}
use Rattle.aw_cell.specs.declared.cell.Kind.TheVariants.{Bool as BOOLEAN}
use Rattle.dml_kinds.specs.declared.types.ValueType.{ValueType}
use Rattle.dml_kinds.specs.declared.tree.Tree.{Tree}
use Rattle.dml_kinds.specs.declared.tree.Tree.TheOpen.{Tree-F}
use Rattle.dml_kinds.specs.declared.tree.Tree.TheFolds.{fold-roll-Tree}
use Rattle.dml_kinds.specs.declared.tree.Tree.TheVariants as tree
use Rattle.dml_kinds.specs.declared.tree.Tree.TheVariants.{rolls-If}
use Rattle.dml_exec.specs.declared.kinds.Fix.{Fix}
use Rattle.dml_exec.specs.declared.op.Op.{Op}
use Rattle.dml_exec.specs.declared.op.Op.TheVariants.{Push, Branch, Jump}
use Rattle.dml_compile.specs.TreeKinds.{wanted_in}
use Rattle.dml_compile.specs.inside.Emitted.{FormulaCode, Emitted, emitted, level_emitted, no_place, na_place, choice_ops, choice_from, choice_of}

two_writes : (c a b : List Op) (x y i j : Op) → slice_set (slice_set ((c ++ x ∷ a) ++ y ∷ b) (length (c ++ x ∷ a)) j) (length c) i ≡ c ++ i ∷ (a ++ j ∷ b)
two_writes c a b x y i j =
    ap (λ (l : List Op). slice_set l (length c) i) (set-append_seam (c ++ x ∷ a) y b j ∙ append_assoc c (x ∷ a) (j ∷ b))
    ∙ set-append_seam c x (a ++ j ∷ b) i

pub patched_choice : (kind : Kind) (o0 test o1 o2 o3 o4 o5 o6 : List Op) (first second : ℕ → List Op) (branch jump : ℕ) → o1 ≡ o0 ++ test → branch ≡ length o1 → o2 ≡ o1 ++ Jump 0 ∷ [] → o3 ≡ o2 ++ first (length o2) → jump ≡ length o3 → o4 ≡ o3 ++ Jump 0 ∷ [] → o5 ≡ o4 ++ second (length o4) → o6 ≡ slice_set (slice_set (o5 ++ Jump (length o5 + 2) ∷ Push Na kind ∷ []) jump (Jump (length o5 + 2))) branch (Branch (jump + 1) (length o5 + 1)) → o6 ≡ o0 ++ choice_from kind (length o0 + length test) test first second
patched_choice kind o0 test o1 o2 o3 o4 o5 o6 first second branch jump e1 n1 e2 e3 n3 e4 e5 e6 =
    let at : ℕ = length o0 + length test in
    let one : List Op = first (length o2) in
    let two : List Op = second (length o4) in
    let l1 = ap length e1 ∙ length-append o0 test in
    let l2 = ap length e2 ∙ length-append o1 (Jump 0 ∷ []) in
    let l3 = ap length e3 ∙ length-append o2 (first (length o2)) in
    let l4 = ap length e4 ∙ length-append o3 (Jump 0 ∷ []) in
    let l5 = ap length e5 ∙ length-append o4 (second (length o4)) in
    let p2 : length o2 ≡ length o0 + length test + 1 = omega (arith, l1, l2) in
    let p4 : length o4 ≡ length o0 + length test + 1 + length (first (length o2)) + 1 = omega (arith, l1, l2, l3, l4) in
    let end : length o5 + 2 ≡ length o0 + length test + 1 + length (first (length o2)) + 1 + length (second (length o4)) + 1 + 1 = omega (arith, l1, l2, l3, l4, l5) in
    let na : length o5 + 1 ≡ length o0 + length test + 1 + length (first (length o2)) + 1 + length (second (length o4)) + 1 = omega (arith, l1, l2, l3, l4, l5) in
    let no : jump + 1 ≡ length o0 + length test + 1 + length (first (length o2)) + 1 = omega (arith, n3, l1, l2, l3) in
    let j : Op = Jump (length o5 + 2) in
    let last : List Op = Jump (length o5 + 2) ∷ Push Na kind ∷ [] in
    let whole3 : o3 ≡ o1 ++ Jump 0 ∷ one = e3 ∙ ap (λ (l : List Op). l ++ one) e2 ∙ append_assoc o1 (Jump 0 ∷ []) one in
    let whole5 : o5 ++ last ≡ (o1 ++ Jump 0 ∷ one) ++ Jump 0 ∷ (two ++ last) =
    ap (λ (l : List Op). l ++ last) (e5 ∙ ap (λ (l : List Op). l ++ two) (e4 ∙ ap (λ (l : List Op). l ++ Jump 0 ∷ []) whole3) ∙ append_assoc (o1 ++ Jump 0 ∷ one) (Jump 0 ∷ []) two)
    ∙ append_assoc (o1 ++ Jump 0 ∷ one) (Jump 0 ∷ two) last
    in
    e6
    ∙ ap (λ (l : List Op). slice_set (slice_set l jump j) branch (Branch (jump + 1) (length o5 + 1))) whole5
    ∙ ap (λ (n : ℕ). slice_set (slice_set ((o1 ++ Jump 0 ∷ one) ++ Jump 0 ∷ (two ++ last)) n j) branch (Branch (jump + 1) (length o5 + 1))) (n3 ∙ ap length whole3)
    ∙ ap (λ (n : ℕ). slice_set (slice_set ((o1 ++ Jump 0 ∷ one) ++ Jump 0 ∷ (two ++ last)) (length (o1 ++ Jump 0 ∷ one)) j) n (Branch (jump + 1) (length o5 + 1))) n1
    ∙ two_writes o1 one (two ++ last) (Jump 0) (Jump 0) (Branch (jump + 1) (length o5 + 1)) j
    ∙ ap (λ (l : List Op). l ++ Branch (jump + 1) (length o5 + 1) ∷ (one ++ j ∷ (two ++ last))) e1
    ∙ append_assoc o0 test (Branch (jump + 1) (length o5 + 1) ∷ (one ++ j ∷ (two ++ last)))
    ∙ ap (λ (n : ℕ). o0 ++ (test ++ Branch n (length o5 + 1) ∷ (one ++ j ∷ (two ++ last)))) no
    ∙ ap (λ (n : ℕ). o0 ++ (test ++ Branch (no_place at one) n ∷ (one ++ j ∷ (two ++ last)))) na
    ∙ ap (λ (n : ℕ). o0 ++ (test ++ Branch (no_place at one) (na_place at one two) ∷ (one ++ Jump n ∷ (two ++ Jump n ∷ Push Na kind ∷ [])))) end
    ∙ ap (λ (n : ℕ). o0 ++ choice_ops kind at test (first (length o2)) (second n)) p4
    ∙ ap (λ (n : ℕ). o0 ++ choice_ops kind at test (first n) (second (no_place at (first n)))) p2

pub joined_fixes : (f0 a b c f1 f2 f3 : List Fix) → f1 ≡ f0 ++ a → f2 ≡ f1 ++ b → f3 ≡ f2 ++ c → f3 ≡ f0 ++ (a ++ (b ++ c))
joined_fixes f0 a b c f1 f2 f3 e1 e2 e3 =
    e3 ∙ ap (λ (l : List Fix). l ++ c) (e2 ∙ ap (λ (l : List Fix). l ++ b) e1 ∙ append_assoc f0 a b)
    ∙ append_assoc f0 (a ++ b) c
    ∙ ap (λ (l : List Fix). f0 ++ l) (append_assoc a b c)

-- the ops of a choice, by the steps in which they are added
pub choice_made : (kind : Kind) (condition first second : Emitted) (o0 o1 o2 o3 o4 o5 o6 : List Op) (f0 f1 f2 f3 f4 : List Fix) (branch jump : ℕ) → o1 ≡ o0 ++ condition.ops BOOLEAN (length o0) (length f0) → f1 ≡ f0 ++ condition.fixes → branch ≡ length o1 → o2 ≡ o1 ++ Jump 0 ∷ [] → f2 ≡ f1 → o3 ≡ o2 ++ first.ops kind (length o2) (length f2) → f3 ≡ f2 ++ first.fixes → jump ≡ length o3 → o4 ≡ o3 ++ Jump 0 ∷ [] → f4 ≡ f3 → o5 ≡ o4 ++ second.ops kind (length o4) (length f4) → o6 ≡ slice_set (slice_set (o5 ++ Jump (length o5 + 2) ∷ Push Na kind ∷ []) jump (Jump (length o5 + 2))) branch (Branch (jump + 1) (length o5 + 1)) → o6 ≡ o0 ++ choice_of kind condition first second (length o0) (length f0)
choice_made kind condition first second o0 o1 o2 o3 o4 o5 o6 f0 f1 f2 f3 f4 branch jump e1 g1 n1 e2 g2 e3 g3 n3 e4 g4 e5 e6 =
    let l1 = ap length g1 ∙ length-append f0 condition.fixes in
    let l2 = ap length g2 in
    let l3 = ap length g3 ∙ length-append f2 first.fixes in
    let l4 = ap length g4 in
    let m2 : length f2 ≡ length f0 + length condition.fixes = omega (arith, l1, l2) in
    let m4 : length f4 ≡ length f0 + length condition.fixes + length first.fixes = omega (arith, l1, l2, l3, l4) in
    patched_choice kind o0 (condition.ops BOOLEAN (length o0) (length f0)) o1 o2 o3 o4 o5 o6
    (λ at. first.ops kind at (length f0 + length condition.fixes))
    (λ at. second.ops kind at (length f0 + length condition.fixes + length first.fixes))
    branch jump e1 n1 e2
    (e3 ∙ ap (λ (n : ℕ). o2 ++ first.ops kind (length o2) n) m2)
    n3 e4
    (e5 ∙ ap (λ (n : ℕ). o4 ++ second.ops kind (length o4) n) m4)
    e6

pub choice_fixes : (condition first second : Emitted) (f0 f1 f2 f3 f4 f5 f6 : List Fix) → f1 ≡ f0 ++ condition.fixes → f2 ≡ f1 → f3 ≡ f2 ++ first.fixes → f4 ≡ f3 → f5 ≡ f4 ++ second.fixes → f6 ≡ f5 → f6 ≡ f0 ++ (condition.fixes ++ (first.fixes ++ second.fixes))
choice_fixes condition first second f0 f1 f2 f3 f4 f5 f6 g1 g2 g3 g4 g5 g6 =
    g6 ∙ joined_fixes f0 condition.fixes first.fixes second.fixes f1 f3 f5 g1 (g3 ∙ ap (λ (l : List Fix). l ++ first.fixes) g2) (g5 ∙ ap (λ (l : List Fix). l ++ second.fixes) g4)

-- ---- a choice that is the tree

module _ (formula : ℕ → FormulaCode) (t : Tree) (met : ValueType) (a b d : Tree) where
  same_variant : (x y z : Tree) → t ≡ tree.If met x y z → a ≡ x → b ≡ y → d ≡ z → t ≡ tree.If met a b d
  same_variant x y z is one two three =
      is ∙ ap (λ (v : Tree). tree.If met v y z) (sym one) ∙ ap (λ (v : Tree). tree.If met a v z) (sym two) ∙ ap (λ (v : Tree). tree.If met a b v) (sym three)

  emitted_choice : t ≡ tree.If met a b d → emitted formula t ≡ level_emitted formula (Tree-F.If met (emitted formula a) (emitted formula b) (emitted formula d))
  emitted_choice is =
      ap (emitted formula) (is ∙ sym (rolls-If met a b d)) ∙ fold-roll-Tree Emitted (level_emitted formula) (Tree-F.If met a b d)

  pub tree_ops_made : (x y z : Tree) (wanted kind : Kind) (o0 o1 o2 o3 o4 o5 o6 : List Op) (f0 f1 f2 f3 f4 : List Fix) (branch jump : ℕ) → t ≡ tree.If met x y z → a ≡ x → b ≡ y → d ≡ z → kind ≡ wanted_in met wanted → o1 ≡ o0 ++ (emitted formula a).ops BOOLEAN (length o0) (length f0) → f1 ≡ f0 ++ (emitted formula a).fixes → branch ≡ length o1 → o2 ≡ o1 ++ Jump 0 ∷ [] → f2 ≡ f1 → o3 ≡ o2 ++ (emitted formula b).ops kind (length o2) (length f2) → f3 ≡ f2 ++ (emitted formula b).fixes → jump ≡ length o3 → o4 ≡ o3 ++ Jump 0 ∷ [] → f4 ≡ f3 → o5 ≡ o4 ++ (emitted formula d).ops kind (length o4) (length f4) → o6 ≡ slice_set (slice_set (o5 ++ Jump (length o5 + 2) ∷ Push Na kind ∷ []) jump (Jump (length o5 + 2))) branch (Branch (jump + 1) (length o5 + 1)) → o6 ≡ o0 ++ (emitted formula t).ops wanted (length o0) (length f0)
  tree_ops_made x y z wanted kind o0 o1 o2 o3 o4 o5 o6 f0 f1 f2 f3 f4 branch jump is one two three in_kind e1 g1 n1 e2 g2 e3 g3 n3 e4 g4 e5 e6 =
      choice_made kind (emitted formula a) (emitted formula b) (emitted formula d) o0 o1 o2 o3 o4 o5 o6 f0 f1 f2 f3 f4 branch jump e1 g1 n1 e2 g2 e3 g3 n3 e4 g4 e5 e6
      ∙ ap (λ (k : Kind). o0 ++ choice_of k (emitted formula a) (emitted formula b) (emitted formula d) (length o0) (length f0)) in_kind
      ∙ ap (λ (e : Emitted). o0 ++ e.ops wanted (length o0) (length f0)) (sym (emitted_choice (same_variant x y z is one two three)))

  pub tree_fixes_made : (x y z : Tree) (f0 f1 f2 f3 f4 f5 f6 : List Fix) → t ≡ tree.If met x y z → a ≡ x → b ≡ y → d ≡ z → f1 ≡ f0 ++ (emitted formula a).fixes → f2 ≡ f1 → f3 ≡ f2 ++ (emitted formula b).fixes → f4 ≡ f3 → f5 ≡ f4 ++ (emitted formula d).fixes → f6 ≡ f5 → f6 ≡ f0 ++ (emitted formula t).fixes
  tree_fixes_made x y z f0 f1 f2 f3 f4 f5 f6 is one two three g1 g2 g3 g4 g5 g6 =
      choice_fixes (emitted formula a) (emitted formula b) (emitted formula d) f0 f1 f2 f3 f4 f5 f6 g1 g2 g3 g4 g5 g6
      ∙ ap (λ (e : Emitted). f0 ++ e.fixes) (sym (emitted_choice (same_variant x y z is one two three)))
