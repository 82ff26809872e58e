-- The fold over the leaves below a value: that of a leaf is its own number, and that of a value with children is that of its
-- children's folds.
use Rattle.std.proofs.Common.{◌≡◌, ◌≢◌, ℕ, suc, ◌==◌, ◌-◌, ◌≤◌, cond, Bool, true, false, not, ◌&&◌, ◌||◌, List, [], ◌∷◌, length, map, slice_set, ℤ, Option, Some, None, refl, sym, ap, ◌∙◌, arith}
use Rattle.std.specs.List.{list_any, filter}
use Rattle.aw_cell.specs.declared.operator.Operator.{Operator}
use Rattle.aw_rel.specs.Hierarchy.{Tree, parent_in, is_among, is_slot, slots_in, up, children_in, leaves_in, is_leaf, is_within, is_above, IsHierarchy}
use Rattle.aw_rel.proofs.CallerLemmas.{or_left, or_right, same_number, number_itself, same_tests, test_of_slot, leads_of, above_by, before}
use Rattle.aw_rel.proofs.CallerLemmas.{no_far, within-some}
use Rattle.aw_rel.proofs.CallerLemmas.{filter_among, among_filter, child_parent, leaves_are_of_one_child}
use Rattle.aw_var.proofs.callers.FiniteMaps.{both_true, and_true}
use Rattle.agg_run.specs.Aggregates.{Numbers}
use Rattle.agg_run.specs.inside.Folds.{summed}
use Rattle.agg_run.specs.declared.folding.Fold.{Fold}
use Rattle.agg_run.proofs.Joining.{summed-same, summed-filter, summed-map, summed-swap}
use Rattle.agg_run.proofs.Sums.{Apart-pairs, Apart-filter, any_by, any_witness, summed-one, summed-values, summed-slots}

-- a leaf at a value or below it
abbrev pub below : Tree → ℕ → ℕ → Bool
below tree slot leaf = is_leaf tree leaf && is_within tree slot leaf

pub summed-leaves : (o : Operator) (tree : Tree) (s : ℕ → Option Fold) (slot : ℕ) → summed o s (leaves_in tree slot) ≡ summed o (λ value. cond (below tree slot value.0) (s value.0) None) tree
summed-leaves o tree s slot =
    summed-map o s (λ value. value.0) (filter (λ value. below tree slot value.0) tree)
    ∙ summed-filter o (λ value. s value.0) (λ value. below tree slot value.0) tree

not_leaf : (tree : Tree) (slot : ℕ) (value : ℕ) → parent_in tree value ≡ Some slot → is_leaf tree slot ≡ true → ⊥
not_leaf [] slot value has leaf = cc
not_leaf (e ∷ tree) slot value has leaf =
    elim (e.0 == value) as (λ b. cond b e.1 (parent_in tree value) ≡ Some slot → not (is_slot slot e.1 || list_any (λ v. is_slot slot v.1) tree) ≡ true → ⊥) [
      | true ↦ λ is leaf.
          let t : (is_slot slot e.1 || list_any (λ v. is_slot slot v.1) tree) ≡ true = or_left (is_slot slot e.1) (list_any (λ v. is_slot slot v.1) tree) (test_of_slot slot e.1 is) in
          let u : not true ≡ true = ap not (sym t) ∙ leaf in cc
      | false ↦ λ is leaf.
          elim (is_slot slot e.1) as (λ b. not (b || list_any (λ v. is_slot slot v.1) tree) ≡ true → ⊥) [
            | true ↦ λ u. cc
            | false ↦ λ u. not_leaf tree slot value is u
          ] leaf
    ] has leaf

-- a leaf has no other value below it
pub below_leaf : (tree : Tree) (slot v : ℕ) → is_leaf tree slot ≡ true → below tree slot v ≡ (slot == v)
below_leaf tree slot v leaf = same_tests (below tree slot v) (slot == v)
    (λ t.
    let tests = both_true (is_leaf tree v) (is_within tree slot v) t in
    elim (slot == v) as (λ b. (b || is_above tree v slot) ≡ true → b ≡ true) [
      | true ↦ λ _. refl
      | false ↦ λ above.
          let l = leads_of tree (length tree) v slot above in
          let last : suc (l.steps - 1) ≡ l.steps = omega (arith, l.least) in
          let b = before tree (l.steps - 1) v slot (ap (λ n. up tree n v) last ∙ l.leads) in
          absurd (not_leaf tree slot b.value b.parent leaf)
    ] tests.1)
    (λ t. and_true (is_leaf tree v) (is_within tree slot v) (ap (is_leaf tree) (sym (same_number slot v t)) ∙ leaf) (or_left (slot == v) (is_above tree v slot) t))

any_number : (slots : List ℕ) (slot : ℕ) → list_any (λ v. slot == v) slots ≡ is_among slots slot
any_number slots slot = refl

pub summed-leaf : (o : Operator) (tree : Tree) (s : ℕ → Option Fold) (slot : ℕ) → IsHierarchy tree → is_leaf tree slot ≡ true → is_among (slots_in tree) slot ≡ true → summed o s (leaves_in tree slot) ≡ s slot
summed-leaf o tree s slot h leaf among =
    summed-leaves o tree s slot
    ∙ summed-values o (λ v. cond (below tree slot v) (s v) None) (λ v. cond (slot == v) (s slot) None) tree (λ v _.
    ap (λ b. cond b (s v) None) (below_leaf tree slot v leaf)
    ∙ elim (slot == v) as (λ b. (slot == v) ≡ b → cond b (s v) None ≡ cond b (s slot) None) [
      | true ↦ λ t. ap s (sym (same_number slot v t))
      | false ↦ λ _. refl
    ] refl)
    ∙ summed-slots o (λ v. cond (slot == v) (s slot) None) tree
    ∙ summed-one o (s slot) (λ v. slot == v) (slots_in tree) (Apart-pairs (slots_in tree) h.apart) (λ y z _ _ p q. sym (same_number slot y p) ∙ same_number slot z q)
    ∙ ap (λ b. cond b (s slot) None) among

-- what is below a child is below its parent
below_parent : (tree : Tree) (slot child v : ℕ) → IsHierarchy tree → is_among (slots_in tree) v ≡ true → parent_in tree child ≡ Some slot → is_within tree child v ≡ true → is_above tree v slot ≡ true
below_parent tree slot child v h among has within =
    elim (child == v) as (λ b. (child == v) ≡ b → (b || is_above tree v child) ≡ true → is_above tree v slot ≡ true) [
      | true ↦ λ t _.
          let parent : parent_in tree v ≡ Some slot = ap (parent_in tree) (sym (same_number child v t)) ∙ has in
          within-some tree v slot slot h among parent ∙ or_left (slot == slot) (is_above tree slot slot) (number_itself slot)
      | false ↦ λ _ above.
          let l = leads_of tree (length tree) v child above in
          let short : l.steps ≡ length tree → ⊥ = λ e. no_far tree v child h among (ap (λ n. up tree n v) (sym e) ∙ l.leads) in
          above_by tree (length tree) v slot (suc l.steps) (omega arith) (omega (arith, l.most_steps, short)) (ap (λ o. elim_parent tree o) l.leads ∙ has)
    ] refl within
  where
    elim_parent : Tree → Option ℕ → Option ℕ
    elim_parent tree None = None
    elim_parent tree (Some slot) = parent_in tree slot

pub some_children : (tree : Tree) (slot : ℕ) → is_leaf tree slot ≡ false → children_in tree slot ≢ []
some_children [] slot inner none = cc
some_children (e ∷ tree) slot inner none =
    elim (is_slot slot e.1) as (λ b. not (b || list_any (λ v. is_slot slot v.1) tree) ≡ false → slots_in (cond b (e ∷ filter (λ v. is_slot slot v.1) tree) (filter (λ v. is_slot slot v.1) tree)) ≡ [] → ⊥) [
      | true ↦ λ _ e. cc
      | false ↦ λ rest e. some_children tree slot rest e
    ] inner none

-- the leaves below a value with children are those below its children
any_below : (tree : Tree) (slot v : ℕ) → IsHierarchy tree → is_leaf tree slot ≡ false → is_among (slots_in tree) v ≡ true → list_any (λ y. below tree y v) (children_in tree slot) ≡ below tree slot v
any_below tree slot v h inner among = same_tests (list_any (λ y. below tree y v) (children_in tree slot)) (below tree slot v)
    (λ t.
    let w = any_witness (λ y. below tree y v) (children_in tree slot) t in
    let tests = both_true (is_leaf tree v) (is_within tree w.0 v) w.2 in
    and_true (is_leaf tree v) (is_within tree slot v) tests.0
    (or_right (slot == v) (is_above tree v slot) (below_parent tree slot w.0 v h among (child_parent tree slot w.0 h.apart w.1) tests.1)))
    (λ t.
    let w = leaves_are_of_one_child tree slot v h (some_children tree slot inner) (among_filter (below tree slot) tree v among t) in
    any_by (λ y. below tree y v) (children_in tree slot) w.child w.is_child (filter_among (below tree w.child) tree v w.below).1)

pub summed-children : (o : Operator) (tree : Tree) (s : ℕ → Option Fold) (slot : ℕ) → IsHierarchy tree → is_leaf tree slot ≡ false →
    summed o (λ y. summed o s (leaves_in tree y)) (children_in tree slot) ≡ summed o s (leaves_in tree slot)
summed-children o tree s slot h inner =
    summed-same o (λ y. summed o s (leaves_in tree y)) (λ y. summed o (λ value. cond (below tree y value.0) (s value.0) None) tree) (children_in tree slot) (λ y. summed-leaves o tree s y)
    ∙ summed-swap o (λ y value. cond (below tree y value.0) (s value.0) None) (children_in tree slot) tree
    ∙ summed-values o (λ v. summed o (λ y. cond (below tree y v) (s v) None) (children_in tree slot)) (λ v. cond (below tree slot v) (s v) None) tree (λ v among.
    summed-one o (s v) (λ y. below tree y v) (children_in tree slot) (Apart-filter (λ value. is_slot slot value.1) tree (Apart-pairs (slots_in tree) h.apart)) (one v among)
    ∙ ap (λ b. cond b (s v) None) (any_below tree slot v h inner among))
    ∙ sym (summed-leaves o tree s slot)
  where
    one : (v : ℕ) → is_among (slots_in tree) v ≡ true → (y z : ℕ) → is_among (children_in tree slot) y ≡ true → is_among (children_in tree slot) z ≡ true → below tree y v ≡ true → below tree z v ≡ true → y ≡ z
    one v among y z child other p q =
        let t = both_true (is_leaf tree v) (is_within tree y v) p in
        let within = below_parent tree slot y v h among (child_parent tree slot y h.apart child) t.1 in
        let w = leaves_are_of_one_child tree slot v h (some_children tree slot inner) (among_filter (below tree slot) tree v among (and_true (is_leaf tree v) (is_within tree slot v) t.0 (or_right (slot == v) (is_above tree v slot) within))) in
        w.alone y child (among_filter (below tree y) tree v among p) ∙ sym (w.alone z other (among_filter (below tree z) tree v among q))

-- ---- no more leaves than values

filter_most : (p : ℕ × Option ℕ → Bool) (t : Tree) → length (slots_in (filter p t)) ≤ length t
filter_most p [] = omega arith
filter_most p (e ∷ t) =
    let r = filter_most p t in
    elim (p e) as (λ b. length (slots_in (cond b (e ∷ filter p t) (filter p t))) ≤ suc (length t)) [ true ↦ omega (arith, r) | false ↦ omega (arith, r) ]

mapped : (numbers : Numbers) (key : List ℕ) (place : ℕ) (slots : List ℕ) → length {A = Option ℤ} (map (λ leaf. numbers (slice_set key place leaf)) slots) ≡ length slots
mapped numbers key place [] = refl
mapped numbers key place (s ∷ slots) = ap suc (mapped numbers key place slots)

pub leaves_most : (tree : Tree) (numbers : Numbers) (key : List ℕ) (place slot : ℕ) → length {A = Option ℤ} (map (λ leaf. numbers (slice_set key place leaf)) (leaves_in tree slot)) ≤ length tree
leaves_most tree numbers key place slot = let m = mapped numbers key place (leaves_in tree slot) in let f = filter_most (λ value. is_leaf tree value.0 && is_within tree slot value.0) tree in omega (arith, m, f)
