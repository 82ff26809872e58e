-- The levels of a line, as they are begun, completed and finished.
use Rattle.std.proofs.Common.{◌≡◌, ◌≢◌, ℕ, suc, zero, ◌==◌, ◌<◌, ◌+◌, cond, Bool, true, false, not, ◌||◌, ℤ, List, [], ◌∷◌, ◌++◌, length, slice_set, get_or, Option, Some, None, Result, Ok, Err, OnOk, refl, sym, ap, subst, ◌∙◌, arith}
use Rattle.std.specs.List.{list_any, filter, IsDistinct}
use Rattle.std.specs.Option.{option_map}
use Rattle.std.specs.Map.{keys_of}
use Rattle.std.specs.BTreeMap.{BTreeMap, is_at}
use Rattle.std.specs.Ordering.{eq_by_cmp}
use Rattle.std.specs.Cmp.{eq_by_cmp_equiv}
use Rattle.std.specs.Cmp.Lexicographic.{nat_list_cmp_total}
use Rattle.std.proofs.lemmas.Map.{lookup-none}
use Rattle.std.proofs.lemmas.Map.Entries.{none_past_head}
use Rattle.std.proofs.lemmas.Map.Keys.{IsDistinct-tail}
use Rattle.std.proofs.lemmas.Bool.Decides.{Decides-eqb}
use Rattle.std.proofs.Math.ListN.{length-set}
use Rattle.aw_cell.specs.declared.cell.Kind.{Kind}
use Rattle.aw_cell.specs.declared.operator.Operator.{Operator}
use Rattle.aw_rel.specs.Hierarchy.{Tree, is_among, is_slot, slots_in, children_in, leaves_in, is_leaf, IsHierarchy}
use Rattle.aw_rel.proofs.CallerLemmas.{same_tests, same_number}
use Rattle.aw_rel.proofs.CallerLemmas.{child_parent}
use Rattle.aw_var.specs.CellMap.{by_slots}
use Rattle.agg_run.specs.Aggregates.{Numbers, slot_at}
use Rattle.agg_run.specs.inside.Folds.{with, summed, fold_of}
use Rattle.agg_run.specs.inside.Levels.{Folds, Levels, Held, fold_at, held_at, on_level, placed_on, started, leaf_cell, fold_below, whole, whole_cell, ended, or_else, depth_in}
use Rattle.agg_run.specs.declared.folding.Fold.{Fold}
use Rattle.agg_run.proofs.Joining.{with-none, with-assoc, summed-none, summed-same}
use Rattle.agg_run.proofs.Climbing.{same_key}
use Rattle.agg_run.proofs.Sums.{summed-lookup, summed-among, key_turned}
use Rattle.agg_run.proofs.Leaves.{summed-leaf, summed-children, some_children}
use Rattle.agg_run.proofs.Lifting.{set_twice}
use Rattle.agg_run.proofs.Depths.{depth_child, value_with_parent}
use Rattle.std.proofs.lemmas.List.{get_or-set_same}

-- ---- lists of levels

pub on_level-front : (xs ys : Levels) (depth : ℕ) (key : List ℕ) → depth < length xs → on_level (xs ++ ys) depth key ≡ on_level xs depth key
on_level-front [] ys depth key within = absurd (omega (arith, within))
on_level-front (x ∷ xs) ys zero key within = refl
on_level-front (x ∷ xs) ys (suc depth) key within = on_level-front xs ys depth key (omega (arith, within))

pub on_level-last : (xs : Levels) (x : BTreeMap (List ℕ) Fold) (key : List ℕ) → on_level (xs ++ x ∷ []) (length xs) key ≡ fold_at x.entries key
on_level-last [] x key = refl
on_level-last (y ∷ xs) x key = on_level-last xs x key

pub on_level-set : (xs : Levels) (i : ℕ) (x : BTreeMap (List ℕ) Fold) (depth : ℕ) (key : List ℕ) → i < length xs → depth ≢ i → on_level (slice_set xs i x) depth key ≡ on_level xs depth key
on_level-set [] i x depth key within other = absurd (omega (arith, within))
on_level-set (y ∷ xs) zero x zero key within other = absurd (other refl)
on_level-set (y ∷ xs) zero x (suc depth) key within other = refl
on_level-set (y ∷ xs) (suc i) x zero key within other = refl
on_level-set (y ∷ xs) (suc i) x (suc depth) key within other = on_level-set xs i x depth key (omega (arith, within)) (λ e. other (ap suc e))

pub on_level-here : (xs : Levels) (i : ℕ) (x : BTreeMap (List ℕ) Fold) (key : List ℕ) → i < length xs → on_level (slice_set xs i x) i key ≡ fold_at x.entries key
on_level-here [] i x key within = absurd (omega (arith, within))
on_level-here (y ∷ xs) zero x key within = refl
on_level-here (y ∷ xs) (suc i) x key within = on_level-here xs i x key (omega (arith, within))

pub on_level-get : (xs : Levels) (i : ℕ) (d : BTreeMap (List ℕ) Fold) (key : List ℕ) → i < length xs → on_level xs i key ≡ fold_at (get_or xs i d).entries key
on_level-get [] i d key within = absurd (omega (arith, within))
on_level-get (x ∷ xs) zero d key within = refl
on_level-get (x ∷ xs) (suc i) d key within = on_level-get xs i d key (omega (arith, within))

-- one more level without cells
pub on_level-empty : (xs : Levels) (x : BTreeMap (List ℕ) Fold) (depth : ℕ) (key : List ℕ) → x.entries ≡ [] → ((d : ℕ) (k : List ℕ) → on_level xs d k ≡ None) → on_level (xs ++ x ∷ []) depth key ≡ None
on_level-empty [] x zero key is none = ap (λ (e : Folds). fold_at e key) is
on_level-empty [] x (suc depth) key is none = refl
on_level-empty (y ∷ xs) x zero key is none = none zero key
on_level-empty (y ∷ xs) x (suc depth) key is none = on_level-empty xs x depth key is (λ d k. none (suc d) k)

pub length-pushed : (xs : Levels) (x : BTreeMap (List ℕ) Fold) → length (xs ++ x ∷ []) ≡ length xs + 1
length-pushed [] x = refl
length-pushed (y ∷ xs) x = let r = length-pushed xs x in omega (arith, r)

-- where a level was changed
pub on_level-added : (o : Operator) (levels : Levels) (level : ℕ) (old new : BTreeMap (List ℕ) Fold) (adds : List ℕ → Option Fold) → level < length levels → old ≡ get_or levels level old →
    ((key : List ℕ) → fold_at new.entries key ≡ with o (fold_at old.entries key) (adds key)) →
    (depth : ℕ) (key : List ℕ) → on_level (slice_set levels level new) depth key ≡ with o (on_level levels depth key) (cond (depth == level) (adds key) None)
on_level-added o levels level old new adds within here set depth key =
    elim (depth == level) as (λ b. (depth == level) ≡ b → on_level (slice_set levels level new) depth key ≡ with o (on_level levels depth key) (cond b (adds key) None)) [
      | true ↦ λ t.
          let same = same_number depth level t in
          ap (λ d. on_level (slice_set levels level new) d key) same ∙ on_level-here levels level new key within ∙ set key
          ∙ ap (λ f. with o f (adds key)) (ap (λ (m : BTreeMap (List ℕ) Fold). fold_at m.entries key) here ∙ sym (on_level-get levels level old key within) ∙ ap (λ d. on_level levels d key) (sym same))
      | false ↦ λ f.
          let other : depth ≢ level = λ e. let t = (Decides-eqb depth level).1 e in cc in
          on_level-set levels level new depth key within other ∙ sym (with-none o (on_level levels depth key))
    ] refl

-- where the last level was changed
pub others_kept : (levels : Levels) (last : ℕ) (new : BTreeMap (List ℕ) Fold) (depth : ℕ) (key : List ℕ) → last < length levels → suc last ≡ length levels → suc depth < length levels → on_level (slice_set levels last new) depth key ≡ on_level levels depth key
others_kept levels last new depth key within is less = on_level-set levels last new depth key within (λ e. omega (arith, e, is, less))

pub last_added : (o : Operator) (levels : Levels) (last : ℕ) (old new : BTreeMap (List ℕ) Fold) (adds : Option Fold) (depth : ℕ) (key : List ℕ) → last < length levels → suc last ≡ length levels → suc depth ≡ length levels → old ≡ get_or levels last old →
    fold_at new.entries key ≡ with o (fold_at old.entries key) adds → on_level (slice_set levels last new) depth key ≡ with o (on_level levels depth key) adds
last_added o levels last old new adds depth key within is here at set =
    let same : depth ≡ last = omega (arith, is, here) in
    ap (λ d. on_level (slice_set levels last new) d key) same ∙ on_level-here levels last new key within ∙ set
    ∙ ap (λ f. with o f adds) (ap (λ (m : BTreeMap (List ℕ) Fold). fold_at m.entries key) at ∙ sym (on_level-get levels last old key within) ∙ ap (λ d. on_level levels d key) (sym same))

pub no_levels : (levels : Levels) → length levels ≡ 0 → levels ≡ []
no_levels [] none = refl
no_levels (x ∷ levels) none = absurd (omega (arith, none))

pub on_ok : {A E : Type 0} (r : Result A E) {P Q : Type 0} → (P → Q) → OnOk r P → OnOk r Q
on_ok (Ok a) f p = f p
on_ok (Err e) f p = tt

-- ---- the cells at leaves

-- what was placed, with what is left, is all
pub placed_more : (o : Operator) (rest : List (List ℕ × ℤ)) (was now adds goal : Option Fold) (f : List ℕ × ℤ → Option Fold) (at : List ℕ × ℤ) → now ≡ with o was adds → adds ≡ f at → with o was (summed o f (at ∷ rest)) ≡ goal → with o now (summed o f rest) ≡ goal
placed_more o rest was now adds goal f at is same before =
    ap (λ x. with o x (summed o f rest)) (is ∙ ap (with o was) same) ∙ with-assoc o was (f at) (summed o f rest) ∙ before

pub placed_step : (o : Operator) (left rest : Held) (was now adds goal : Option Fold) (f : List ℕ × ℤ → Option Fold) (at : List ℕ × ℤ) → left ≡ at ∷ rest → now ≡ with o was adds → adds ≡ f at → with o was (summed o f left) ≡ goal → with o now (summed o f rest) ≡ goal
placed_step o left rest was now adds goal f at first is same before = placed_more o rest was now adds goal f at is same (ap (λ (l : Held). with o was (summed o f l)) (sym first) ∙ before)

pub placed_here : (tree : Tree) (place depth : ℕ) (key at : List ℕ) (number : ℤ) (slot level : ℕ) (leaf : Bool) (fold : Fold) → slot ≡ slot_at at place → leaf ≡ is_leaf tree slot → leaf ≡ true → level ≡ depth_in tree slot → fold ≡ fold_of number →
    cond (depth == level) (cond (is_at (by_slots at) key) (Some fold) None) None ≡ placed_on tree place depth key (at, number)
placed_here tree place depth key at number slot level leaf fold here is leafy deep of =
    (λ i. cond (depth == deep i) (cond (is_at (by_slots at) key) (Some (of i)) None) None)
    ∙ ap (λ n. cond (depth == depth_in tree n) (cond (is_at (by_slots at) key) (Some (fold_of number)) None) None) here
    ∙ ap (λ b. cond b (cond (depth == depth_in tree (slot_at at place)) (cond (is_at (by_slots at) key) (Some (fold_of number)) None) None) None) (sym leafy ∙ is ∙ ap (is_leaf tree) here)

pub leaf_cells : (o : Operator) (tree : Tree) (place depth : ℕ) (key : List ℕ) (held : Held) → IsDistinct (eq_by_cmp by_slots) (keys_of held) → summed o (placed_on tree place depth key) held ≡ leaf_cell tree place (held_at held) depth key
leaf_cells o tree place depth key held distinct =
    summed-same o (placed_on tree place depth key) (λ e. cond (is_at (by_slots key) e.0) (here (Some (fold_of e.1))) None) held each
    ∙ elim (is_leaf tree (slot_at key place)) as (λ b. summed o (λ (e : List ℕ × ℤ). cond (is_at (by_slots key) e.0) (cond b (cond (depth == depth_in tree (slot_at key place)) (Some (fold_of e.1)) None) None) None) held ≡ cond (depth == depth_in tree (slot_at key place)) (cond b (started (held_at held) key) None) None) [
      | true ↦ elim (depth == depth_in tree (slot_at key place)) as (λ b. summed o (λ (e : List ℕ × ℤ). cond (is_at (by_slots key) e.0) (cond b (Some (fold_of e.1)) None) None) held ≡ cond b (started (held_at held) key) None) [
        | true ↦ summed-lookup o fold_of key held distinct
        | false ↦ nothing
      ]
      | false ↦ nothing ∙ elim (depth == depth_in tree (slot_at key place)) as (λ b. None ≡ cond {A = Option Fold} b None None) [ true ↦ refl | false ↦ refl ]
    ]
  where
    here : Option Fold → Option Fold
    here fold = cond (is_leaf tree (slot_at key place)) (cond (depth == depth_in tree (slot_at key place)) fold None) None

    nothing : summed o (λ (e : List ℕ × ℤ). cond {A = Option Fold} (is_at (by_slots key) e.0) None None) held ≡ None
    nothing = summed-same o (λ (e : List ℕ × ℤ). cond {A = Option Fold} (is_at (by_slots key) e.0) None None) (λ (e : List ℕ × ℤ). None) held (λ e. elim (is_at (by_slots key) e.0) as (λ b. cond {A = Option Fold} b None None ≡ None) [ true ↦ refl | false ↦ refl ]) ∙ summed-none o held

    each : (e : List ℕ × ℤ) → placed_on tree place depth key e ≡ cond (is_at (by_slots key) e.0) (here (Some (fold_of e.1))) None
    each e =
        ap (λ b. cond (is_leaf tree (slot_at e.0 place)) (cond (depth == depth_in tree (slot_at e.0 place)) (cond b (Some (fold_of e.1)) None) None) None) (key_turned e.0 key)
        ∙ elim (is_at (by_slots key) e.0) as (λ b. is_at (by_slots key) e.0 ≡ b → cond (is_leaf tree (slot_at e.0 place)) (cond (depth == depth_in tree (slot_at e.0 place)) (cond b (Some (fold_of e.1)) None) None) None ≡ cond b (here (Some (fold_of e.1))) None) [
          | true ↦ λ t. ap (λ k. cond (is_leaf tree (slot_at k place)) (cond (depth == depth_in tree (slot_at k place)) (Some (fold_of e.1)) None) None) (sym (same_key key e.0 t))
          | false ↦ λ _. elim (is_leaf tree (slot_at e.0 place)) as (λ b. cond b (cond {A = Option Fold} (depth == depth_in tree (slot_at e.0 place)) None None) None ≡ None) [
            | true ↦ elim (depth == depth_in tree (slot_at e.0 place)) as (λ b. cond {A = Option Fold} b None None ≡ None) [ true ↦ refl | false ↦ refl ]
            | false ↦ refl
          ]
        ] refl

-- ---- one level higher

no_children : (tree : Tree) (slot : ℕ) → is_leaf tree slot ≡ true → children_in tree slot ≡ []
no_children [] slot h = refl
no_children (e ∷ tree) slot h =
    elim (is_slot slot e.1) as (λ b. not (b || list_any (λ value. is_slot slot value.1) tree) ≡ true → slots_in (cond b (e ∷ filter (λ value. is_slot slot value.1) tree) (filter (λ value. is_slot slot value.1) tree)) ≡ []) [
      | true ↦ λ none. cc
      | false ↦ λ rest. no_children tree slot rest
    ] h

other_number : (a b : ℕ) → a ≢ b → (a == b) ≡ false
other_number a b other = elim (a == b) as (λ t. (a == b) ≡ t → t ≡ false) [
  | true ↦ λ t. absurd (other (same_number a b t))
  | false ↦ λ _. refl
] refl

pub leaf_test : (tree : Tree) (slot : ℕ) → (length (children_in tree slot) == 0) ≡ is_leaf tree slot
leaf_test tree slot = elim (is_leaf tree slot) as (λ b. is_leaf tree slot ≡ b → (length (children_in tree slot) == 0) ≡ b) [
  | true ↦ λ t. ap (λ (l : List ℕ). length l == 0) (no_children tree slot t)
  | false ↦ λ f. not_empty (children_in tree slot) (some_children tree slot f)
] refl
  where
    not_empty : (xs : List ℕ) → xs ≢ [] → (length xs == 0) ≡ false
    not_empty [] some = absurd (some refl)
    not_empty (x ∷ xs) some = other_number (length (x ∷ xs)) 0 (λ e. omega (arith, e))

suc_test : (a b : ℕ) → (suc a == suc b) ≡ (a == b)
suc_test a b = same_tests (suc a == suc b) (a == b) (λ t. let e = (Decides-eqb (suc a) (suc b)).0 t in (Decides-eqb a b).1 (omega (arith, e))) (λ t. (Decides-eqb (suc a) (suc b)).1 (ap suc ((Decides-eqb a b).0 t)))

module _ (o : Operator) (tree : Tree) (place : ℕ) (numbers : Numbers) (h : IsHierarchy tree) where
  -- a child's fold is the fold over the leaves below it
  whole_child : (key : List ℕ) (y : ℕ) → place < length key → is_among (slots_in tree) y ≡ true →
      whole o tree place numbers (slice_set key place y) ≡ summed o (λ leaf. started numbers (slice_set key place leaf)) (leaves_in tree y)
  whole_child key y within among =
      let slot : slot_at (slice_set key place y) place ≡ y = get_or-set_same key place y 0 within in
      ap (λ n. cond (is_leaf tree n) (started numbers (slice_set key place y)) (summed o (λ leaf. started numbers (slice_set (slice_set key place y) place leaf)) (leaves_in tree n))) slot
      ∙ elim (is_leaf tree y) as (λ b. is_leaf tree y ≡ b → cond b (started numbers (slice_set key place y)) (summed o (λ leaf. started numbers (slice_set (slice_set key place y) place leaf)) (leaves_in tree y)) ≡ summed o (λ leaf. started numbers (slice_set key place leaf)) (leaves_in tree y)) [
        | true ↦ λ t. sym (summed-leaf o tree (λ leaf. started numbers (slice_set key place leaf)) y h t among)
        | false ↦ λ _. summed-same o (λ leaf. started numbers (slice_set (slice_set key place y) place leaf)) (λ leaf. started numbers (slice_set key place leaf)) (leaves_in tree y) (λ leaf. ap (started numbers) (set_twice key place y leaf))
      ] refl

  pub level_above : (level : Folds) (depth : ℕ) (key : List ℕ) → place < length key →
      ((q : List ℕ) → place < length q → fold_at level q ≡ whole_cell o tree place numbers (suc depth) q) →
      with o (leaf_cell tree place numbers depth key) (summed o (λ y. fold_at level (slice_set key place y)) (children_in tree (slot_at key place))) ≡ whole_cell o tree place numbers depth key
  level_above level depth key within is =
      ap (with o (leaf_cell tree place numbers depth key)) (summed-among o (λ y. fold_at level (slice_set key place y)) (λ y. cond (depth == depth_in tree (slot_at key place)) (sums y) None) (children_in tree (slot_at key place)) child)
      ∙ elim (depth == depth_in tree (slot_at key place)) as (λ b. with o (cond b (cond (is_leaf tree (slot_at key place)) (started numbers key) None) None) (summed o (λ y. cond b (sums y) None) (children_in tree (slot_at key place))) ≡ cond b (whole o tree place numbers key) None) [
        | true ↦ elim (is_leaf tree (slot_at key place)) as (λ b. is_leaf tree (slot_at key place) ≡ b → with o (cond b (started numbers key) None) (summed o sums (children_in tree (slot_at key place))) ≡ cond b (started numbers key) (fold_below o tree place numbers key)) [
          | true ↦ λ t. ap (λ (l : List ℕ). with o (started numbers key) (summed o sums l)) (no_children tree (slot_at key place) t) ∙ with-none o (started numbers key)
          | false ↦ λ t. summed-children o tree (λ leaf. started numbers (slice_set key place leaf)) (slot_at key place) h t
        ] refl
        | false ↦ summed-none o (children_in tree (slot_at key place))
      ]
    where
      sums : ℕ → Option Fold
      sums y = summed o (λ leaf. started numbers (slice_set key place leaf)) (leaves_in tree y)

      child : (y : ℕ) → is_among (children_in tree (slot_at key place)) y ≡ true → fold_at level (slice_set key place y) ≡ cond (depth == depth_in tree (slot_at key place)) (sums y) None
      child y among =
          let slot : slot_at (slice_set key place y) place ≡ y = get_or-set_same key place y 0 within in
          let has = child_parent tree (slot_at key place) y h.apart among in
          let room : place < length (slice_set key place y) = let l = length-set key place y in omega (arith, within, l) in
          is (slice_set key place y) room
          ∙ ap (λ n. cond (suc depth == depth_in tree n) (whole o tree place numbers (slice_set key place y)) None) slot
          ∙ ap (λ n. cond (suc depth == n) (whole o tree place numbers (slice_set key place y)) None) (depth_child tree y (slot_at key place) h has)
          ∙ ap (λ b. cond b (whole o tree place numbers (slice_set key place y)) None) (suc_test depth (depth_in tree (slot_at key place)))
          ∙ ap (λ f. cond (depth == depth_in tree (slot_at key place)) f None) (whole_child key y within (value_with_parent tree y (slot_at key place) has))

-- ---- finishing

pub finished_more : (kind : Kind) (o : Operator) (tree : Tree) (place : ℕ) (key at : List ℕ) (fold : Fold) (rest : Folds) (was now : Held) (number : ℤ) (goal : Option ℤ) →
    IsDistinct (eq_by_cmp by_slots) (keys_of ((at, fold) ∷ rest)) → number ≡ ended kind o tree place at fold → held_at now key ≡ cond (is_at (by_slots at) key) (Some number) (held_at was key) →
    or_else (option_map (ended kind o tree place key) (fold_at ((at, fold) ∷ rest) key)) (held_at was key) ≡ goal → or_else (option_map (ended kind o tree place key) (fold_at rest key)) (held_at now key) ≡ goal
finished_more kind o tree place key at fold rest was now number goal distinct is set before =
    ap (or_else (option_map (ended kind o tree place key) (fold_at rest key))) (set ∙ ap (λ b. cond b (Some number) (held_at was key)) (key_turned at key))
    ∙ elim (is_at (by_slots key) at) as (λ b. is_at (by_slots key) at ≡ b → or_else (option_map (ended kind o tree place key) (cond b (Some fold) (fold_at rest key))) (held_at was key) ≡ goal → or_else (option_map (ended kind o tree place key) (fold_at rest key)) (cond b (Some number) (held_at was key)) ≡ goal) [
      | true ↦ λ t have.
          let none = lookup-none (is_at (by_slots key)) rest (none_past_head (eq_by_cmp_equiv nat_list_cmp_total) key (at, fold) rest distinct t) in
          ap (λ f. or_else (option_map (ended kind o tree place key) f) (Some number)) none
          ∙ ap Some (is ∙ ap (λ k. ended kind o tree place k fold) (sym (same_key key at t))) ∙ have
      | false ↦ λ _ have. have
    ] refl before

pub finished_step : (kind : Kind) (o : Operator) (tree : Tree) (place : ℕ) (at : List ℕ) (fold : Fold) (left rest : Folds) (was now : Held) (number : ℤ) (goal : List ℕ → Option ℤ) →
    left ≡ (at, fold) ∷ rest → number ≡ ended kind o tree place at fold → ((key : List ℕ) → held_at now key ≡ cond (is_at (by_slots at) key) (Some number) (held_at was key)) →
    IsDistinct (eq_by_cmp by_slots) (keys_of left) × ((key : List ℕ) → or_else (option_map (ended kind o tree place key) (fold_at left key)) (held_at was key) ≡ goal key) →
    IsDistinct (eq_by_cmp by_slots) (keys_of rest) × ((key : List ℕ) → or_else (option_map (ended kind o tree place key) (fold_at rest key)) (held_at now key) ≡ goal key)
finished_step kind o tree place at fold left rest was now number goal first is set before =
    let b = subst (λ (l : Folds). IsDistinct (eq_by_cmp by_slots) (keys_of l) × ((key : List ℕ) → or_else (option_map (ended kind o tree place key) (fold_at l key)) (held_at was key) ≡ goal key)) first before in
    (IsDistinct-tail (eq_by_cmp by_slots) at (keys_of rest) b.0, λ key. finished_more kind o tree place key at fold rest was now number (goal key) b.0 is (set key) (b.1 key))
