-- Code that has the ops of a tree is code of the tree.
use Rattle.std.proofs.Common.{◌≡◌, ◌∙◌, ℕ, zero, suc, ◌+◌, Bool as Truth, true, false, cond, eqb, eq-eqb, List, [], ◌∷◌, ◌++◌, length, map, Option, Some, None, Ok, Err, All, refl, sym, ap, subst, arith}
use Rattle.std.specs.Prelude.{slice_get}
use Rattle.aw_cell.specs.declared.cell.Cell.TheVariants.{Text as Chars}
use Rattle.aw_cell.specs.declared.cell.Kind.{Kind}
use Rattle.dml_kinds.specs.declared.tree.Tree.{Tree, roll-Tree, map-Tree}
use Rattle.dml_kinds.specs.declared.tree.Tree.TheOpen.{Tree-F}
use Rattle.dml_kinds.specs.declared.tree.Tree.TheFolds.{fold-roll-Tree, ind-Tree}
use Rattle.dml_exec.specs.declared.code.Code.{Code}
use Rattle.dml_exec.specs.declared.kinds.Fix.{Fix}
use Rattle.dml_exec.specs.declared.kinds.Kinds.{Kinds}
use Rattle.dml_exec.specs.declared.op.Op.{Op}
use Rattle.dml_exec.specs.CodeRuns.{Accepts, AcceptedCodeIsNeverStuck}
use Rattle.dml_exec.specs.Free.{free_dimensions}
use Rattle.dml_exec.specs.Meaning.{CodeInputs, then_on, going, sole, ended, meaning}
use Rattle.dml_compile.specs.Values.{Value, FormulaTree, formula_value, tree_value}
use Rattle.dml_compile.specs.Compiled.{fixes_of, level_fixes, fixes_in, formula_fixes, tree_fixes, seen_by, LooksUp, Compiles}
use Rattle.dml_compile.specs.inside.Emitted.{FormulaCode, Emitted, level_emitted, emitted, formula_code}
use Rattle.dml_compile.proofs.ValuesOfOps.{Told, stood, Computes}
use Rattle.dml_compile.proofs.NamesOfTrees.{KnownAt}
use Rattle.dml_compile.proofs.FreeOfTrees.{tree_is_at}
use Rattle.dml_compile.proofs.TreeValues.{tree_has, formula_codes}

-- ---- fixed values

module _ (formula : ℕ → FormulaCode) (fixes : ℕ → List Fix) (same : (object : ℕ) → (formula object).fixes ≡ fixes object) where
  abbrev FixesAre : Tree → Type 0
  FixesAre t = (emitted formula t).fixes ≡ fixes_in fixes t

  LevelAre : Tree-F Tree → Type 0
  LevelAre z = (level_emitted formula (map-Tree Tree Emitted (emitted formula) z)).fixes ≡ level_fixes fixes (map-Tree Tree (List Fix) (fixes_in fixes) z)

  both_are : (a b c d : List Fix) → a ≡ b → c ≡ d → a ++ c ≡ b ++ d
  both_are a b c d e f = ap (λ (xs : List Fix). xs ++ c) e ∙ ap (λ (xs : List Fix). b ++ xs) f

  level_are : (y : Tree-F ((t : Tree) × FixesAre t)) → LevelAre (map-Tree ((t : Tree) × FixesAre t) Tree (λ e. e.0) y)
  unfolding LevelAre
  level_are (Tree-F.Literal cell) = refl
  level_are (Tree-F.Local number kind) = refl
  level_are (Tree-F.Dimension dimension) = refl
  level_are (Tree-F.Variable kind taken) = refl
  level_are (Tree-F.Relation target taken) = refl
  level_are (Tree-F.Formula kind taken) = ap (λ (xs : List Fix). xs ++ fixes_of taken.fixes) (same taken.object)
  level_are (Tree-F.Not e) = e.1
  level_are (Tree-F.Negative kind e) = e.1
  level_are (Tree-F.Abs kind e) = e.1
  level_are (Tree-F.AsNumber e) = e.1
  level_are (Tree-F.Joined j met e f) = both_are (emitted formula e.0).fixes (fixes_in fixes e.0) (emitted formula f.0).fixes (fixes_in fixes f.0) e.1 f.1
  level_are (Tree-F.If met e f g) =
      both_are (emitted formula e.0).fixes (fixes_in fixes e.0) ((emitted formula f.0).fixes ++ (emitted formula g.0).fixes) (fixes_in fixes f.0 ++ fixes_in fixes g.0) e.1
      (both_are (emitted formula f.0).fixes (fixes_in fixes f.0) (emitted formula g.0).fixes (fixes_in fixes g.0) f.1 g.1)

  rolled_are : (x : Tree-F Tree) → LevelAre x → FixesAre (roll-Tree x)
  unfolding LevelAre
  rolled_are x h = ap (λ (e : Emitted). e.fixes) (fold-roll-Tree Emitted (level_emitted formula) x) ∙ h ∙ sym (fold-roll-Tree (List Fix) (level_fixes fixes) x)

  fixes_are : (t : Tree) → FixesAre t
  fixes_are = ind-Tree FixesAre (λ x y is. rolled_are x (subst LevelAre is (level_are y)))

formula_fixes_are : (formulas : List FormulaTree) (object : ℕ) → (formula_code formulas object).fixes ≡ formula_fixes formulas object
formula_fixes_are [] object = refl
formula_fixes_are (formula ∷ earlier) object =
    by (eqb formula.object object) (λ other. formula_fixes_are earlier other)
  where
    by : (t : Truth) → ((other : ℕ) → (formula_code earlier other).fixes ≡ formula_fixes earlier other) → (cond t (record { ops = (emitted (formula_code earlier) formula.tree).ops formula.kind 0 0; fixes = (emitted (formula_code earlier) formula.tree).fixes }) (formula_code earlier object)).fixes ≡ cond t (fixes_in (formula_fixes earlier) formula.tree) (formula_fixes earlier object)
    by true before = fixes_are (formula_code earlier) (formula_fixes earlier) before formula.tree
    by false before = before object

pub tree_fixes_are : (formulas : List FormulaTree) (tree : Tree) → (emitted (formula_code formulas) tree).fixes ≡ tree_fixes formulas tree
tree_fixes_are formulas tree = fixes_are (formula_code formulas) (formula_fixes formulas) (formula_fixes_are formulas) tree

-- ---- what was looked up

slice_get-mapped : {A B : Type 0} (f : A → B) (xs : List A) (k : ℕ) (x : A) → slice_get xs k ≡ Some x → slice_get (map f xs) k ≡ Some (f x)
slice_get-mapped f [] k x is = absurd (cc)
slice_get-mapped {A} {B} f (y ∷ xs) zero x is = let same : y ≡ x = cc in ap (λ (z : A). Some (f z)) same
slice_get-mapped f (y ∷ xs) (suc k) x is = slice_get-mapped f xs k x is

module _ (r : CodeInputs) (slot : ℕ → List ℕ → ℕ) where
  abbrev slot_of : Fix → ℕ
  slot_of fix = slot fix.dimension fix.value

  abbrev IsNamed : Fix → Type 0
  IsNamed fix = r.name fix.dimension (slot fix.dimension fix.value) ≡ Chars fix.value

  known_from : (fixes : List Fix) (number : ℕ) → ((k : ℕ) (fix : Fix) → slice_get fixes k ≡ Some fix → slice_get r.fixed (number + k) ≡ Some (slot_of fix)) → All IsNamed fixes → KnownAt r slot number fixes
  known_from [] number slots names = tt
  known_from (fix ∷ fixes) number slots names =
      let here : number + 0 ≡ number = omega arith in (
        subst (λ (n : ℕ). slice_get r.fixed n ≡ Some (slot_of fix)) here (slots 0 fix refl),
        names 0 fix (omega arith),
        known_from fixes (number + 1) (λ k other is. let on : number + suc k ≡ number + 1 + k = omega arith in subst (λ (n : ℕ). slice_get r.fixed n ≡ Some (slot_of other)) on (slots (suc k) other is)) (λ k d less. names (suc k) d (omega (arith, less))),
      )

  pub known_looked_up : (fixes : List Fix) → LooksUp r slot fixes → KnownAt r slot 0 fixes
  known_looked_up fixes looks =
      known_from fixes 0
      (λ k fix is. let here : 0 + k ≡ k = omega arith in ap (slice_get r.fixed) here ∙ ap (λ (xs : List ℕ). slice_get xs k) looks.slots ∙ slice_get-mapped slot_of fixes k fix is)
      looks.names

-- ---- the answer of a run

module _ (r : CodeInputs) where
  finish : (told : Option Value) (count end : ℕ) → end ≡ count → ended count (then_on (going r end []) (stood end [] told)) ≡ told
  finish None count end e = refl
  finish (Some (Err why)) count end e = refl
  finish (Some (Ok a)) count end e = ap (λ (t : Truth). cond t (sole (a ∷ [])) None) (eq-eqb end count e)

  append-none : (ops : List Op) → ops ++ [] ≡ ops
  append-none [] = refl
  append-none (op ∷ ops) = ap (λ (xs : List Op). op ∷ xs) (append-none ops)

  told_answer : (told : Option Value) (v answer : Value) → Told told v → told ≡ Some answer → answer ≡ v
  told_answer None v answer is e = absurd (cc)
  told_answer (Some t) v answer is e = let same : t ≡ answer = cc in sym same ∙ is

  answer_is : (ops : List Op) (v answer : Value) → Computes r 0 ops v → meaning r ops ≡ Some answer → answer ≡ v
  answer_is ops v answer c e =
      let all : 0 + length ops ≡ length ops = omega arith in
      told_answer c.told v answer c.is
      (sym (ap (λ (xs : List Op). ended (length ops) (going r 0 xs (0, []))) (sym (append-none ops)) ∙ ap (ended (length ops)) (c.by [] []) ∙ finish c.told (length ops) (0 + length ops) all) ∙ e)

-- code that was accepted and has the ops and the fixes of a tree is code of the tree
pub compiles : AcceptedCodeIsNeverStuck → (formulas : List FormulaTree) (kinds : Kinds) (tree : Tree) (kind : Kind) (code : Code) → Accepts kinds code → code.ops ≡ (emitted (formula_code formulas) tree).ops kind 0 0 → code.fixes ≡ (emitted (formula_code formulas) tree).fixes → Compiles formulas kinds tree code
compiles never formulas kinds tree kind code accepted ops fixes = record {
  accepted = accepted;
  fixes = fixes ∙ tree_fixes_are formulas tree;
  free = λ all named. accepted.free ∙ ap free_dimensions ops ∙ tree_is_at formulas tree kind all named;
  value = λ r slot looks fits.
      let run = never kinds code r accepted fits in
      let known : KnownAt r slot 0 (emitted (formula_code formulas) tree).fixes = subst (KnownAt r slot 0) fixes (known_looked_up r slot code.fixes looks) in
      let computes = tree_has (formula_code formulas) (λ seen object place. formula_value seen formulas object place) (formula_codes formulas) r slot tree kind 0 0 known in
      run.means
      ∙ ap Some (answer_is r ((emitted (formula_code formulas) tree).ops kind 0 0) (tree_value formulas (seen_by r slot) r.place tree) run.answer computes (ap (meaning r) (sym ops) ∙ run.means));
}
