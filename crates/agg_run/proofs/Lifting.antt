-- What the cells of a level add to the cells above them: at each key the cells at the children of its value.
use Rattle.std.proofs.Common.{◌≡◌, ℕ, suc, zero, ◌<◌, cond, Bool, true, false, List, [], ◌∷◌, length, get_or, slice_set, Option, Some, None, refl, sym, ap, ◌∙◌, arith}
use Rattle.std.specs.List.{list_any, IsDistinct}
use Rattle.std.specs.Option.{option_map}
use Rattle.std.specs.Map.{keys_of}
use Rattle.std.specs.BTreeMap.{is_at}
use Rattle.std.specs.Ordering.{eq_by_cmp}
use Rattle.std.proofs.lemmas.List.{get_or-set_same}
use Rattle.std.proofs.Math.ListN.{length-set}
use Rattle.aw_cell.specs.declared.operator.Operator.{Operator}
use Rattle.aw_rel.specs.Hierarchy.{Tree, parent_in, is_slot, slots_in, children_in, IsHierarchy}
use Rattle.aw_rel.proofs.CallerLemmas.{same_tests, some_same}
use Rattle.aw_rel.proofs.CallerLemmas.{child_parent, parent_child}
use Rattle.aw_var.specs.CellMap.{by_slots}
use Rattle.agg_run.specs.Aggregates.{slot_at}
use Rattle.agg_run.specs.inside.Folds.{summed}
use Rattle.agg_run.specs.inside.Levels.{Folds, fold_at, lifted_to, raised_key, given_at}
use Rattle.agg_run.specs.declared.folding.Fold.{Fold}
use Rattle.agg_run.proofs.Joining.{summed-same, summed-swap}
use Rattle.agg_run.proofs.Climbing.{same_key}
use Rattle.agg_run.proofs.Sums.{Apart-pairs, Apart-filter, any_by, any_witness, summed-one, summed-lookup, key_test}

pub set_twice : (xs : List ℕ) (i a b : ℕ) → slice_set (slice_set xs i a) i b ≡ slice_set xs i b
set_twice [] i a b = refl
set_twice (x ∷ xs) zero a b = refl
set_twice (x ∷ xs) (suc i) a b = ap (λ (l : List ℕ). x ∷ l) (set_twice xs i a b)

pub set_same : (xs : List ℕ) (i d : ℕ) → slice_set xs i (get_or xs i d) ≡ xs
set_same [] i d = refl
set_same (x ∷ xs) zero d = refl
set_same (x ∷ xs) (suc i) d = ap (λ (l : List ℕ). x ∷ l) (set_same xs i d)

module _ (o : Operator) (tree : Tree) (place : ℕ) (key : List ℕ) (h : IsHierarchy tree) (within : place < length key) where
  slot_of_set : (y : ℕ) → slot_at (slice_set key place y) place ≡ y
  slot_of_set y = get_or-set_same key place y 0 within

  -- whether a cell stands at the child of this key's value
  is_child_at : List ℕ → ℕ → Bool
  is_child_at at y = is_at (by_slots (slice_set key place y)) at

  slot_of_child : (at : List ℕ) (y : ℕ) → is_child_at at y ≡ true → slot_at at place ≡ y
  unfolding is_child_at
  slot_of_child at y t = ap (λ k. slot_at k place) (sym (same_key (slice_set key place y) at t)) ∙ slot_of_set y

  -- a cell gives to the key above it, and to no other
  raised_test : (at : List ℕ) (parent : ℕ) → parent_in tree (slot_at at place) ≡ Some parent → list_any (is_child_at at) (children_in tree (slot_at key place)) ≡ is_at (by_slots (slice_set at place parent)) key
  unfolding is_child_at
  raised_test at parent has = same_tests (list_any (is_child_at at) (children_in tree (slot_at key place))) (is_at (by_slots (slice_set at place parent)) key)
      (λ t.
      let w = any_witness (is_child_at at) (children_in tree (slot_at key place)) t in
      let is = same_key (slice_set key place w.0) at w.2 in
      let its = child_parent tree (slot_at key place) w.0 h.apart w.1 in
      let same = some_same parent (slot_at key place) (parent_in tree (slot_at at place)) has (ap (parent_in tree) (slot_of_child at w.0 w.2) ∙ its) in
      key_test (slice_set at place parent) key
      (ap (λ k. slice_set k place parent) (sym is) ∙ set_twice key place w.0 parent ∙ ap (slice_set key place) same ∙ set_same key place 0))
      (λ t.
      let is : slice_set at place parent ≡ key = same_key (slice_set at place parent) key t in
      let room : place < length at = let l = ap (λ (k : List ℕ). length k) is in omega (arith, within, l, length-set at place parent) in
      let same : parent ≡ slot_at key place = sym (get_or-set_same at place parent 0 room) ∙ ap (λ k. slot_at k place) is in
      any_by (is_child_at at) (children_in tree (slot_at key place)) (slot_at at place)
      (parent_child tree (slot_at key place) (slot_at at place) (has ∙ ap (λ (n : ℕ). Some n) same))
      (key_test (slice_set key place (slot_at at place)) at (ap (λ k. slice_set k place (slot_at at place)) (sym is) ∙ set_twice at place parent (slot_at at place) ∙ set_same at place 0)))

  no_test : (at : List ℕ) → parent_in tree (slot_at at place) ≡ None → list_any (is_child_at at) (children_in tree (slot_at key place)) ≡ false
  no_test at none = elim (list_any (is_child_at at) (children_in tree (slot_at key place))) as (λ b. list_any (is_child_at at) (children_in tree (slot_at key place)) ≡ b → b ≡ false) [
    | true ↦ λ t.
        let w = any_witness (is_child_at at) (children_in tree (slot_at key place)) t in
        let e : None ≡ Some (slot_at key place) = sym none ∙ ap (parent_in tree) (slot_of_child at w.0 w.2) ∙ child_parent tree (slot_at key place) w.0 h.apart w.1 in cc
    | false ↦ λ _. refl
  ] refl

  gives : (e : List ℕ × Fold) → summed o (λ y. cond (is_child_at e.0 y) (Some e.1) None) (children_in tree (slot_at key place)) ≡ lifted_to tree place key e
  gives e =
      summed-one o (Some e.1) (is_child_at e.0) (children_in tree (slot_at key place)) (Apart-filter (λ value. is_slot (slot_at key place) value.1) tree (Apart-pairs (slots_in tree) h.apart))
      (λ y z _ _ p q. sym (slot_of_child e.0 y p) ∙ slot_of_child e.0 z q)
      ∙ elim (parent_in tree (slot_at e.0 place)) as (λ p. parent_in tree (slot_at e.0 place) ≡ p → cond (list_any (is_child_at e.0) (children_in tree (slot_at key place))) (Some e.1) None ≡ given_at key e.1 (raised_key place e.0 p)) [
        | None ↦ λ none. ap (λ b. cond b (Some e.1) None) (no_test e.0 none)
        | Some parent ↦ λ has. ap (λ b. cond b (Some e.1) None) (raised_test e.0 parent has)
      ] refl

  pub summed-lifted : (es : Folds) → IsDistinct (eq_by_cmp by_slots) (keys_of es) →
      summed o (lifted_to tree place key) es ≡ summed o (λ y. fold_at es (slice_set key place y)) (children_in tree (slot_at key place))
  unfolding is_child_at
  summed-lifted es distinct =
      summed-same o (lifted_to tree place key) (λ e. summed o (λ y. cond (is_child_at e.0 y) (Some e.1) None) (children_in tree (slot_at key place))) es (λ e. sym (gives e))
      ∙ summed-swap o (λ e y. cond (is_child_at e.0 y) (Some e.1) None) es (children_in tree (slot_at key place))
      ∙ summed-same o (λ y. summed o (λ (e : List ℕ × Fold). cond (is_child_at e.0 y) (Some e.1) None) es) (λ y. fold_at es (slice_set key place y)) (children_in tree (slot_at key place))
      (λ y. summed-lookup o (λ (f : Fold). f) (slice_set key place y) es distinct ∙ same_option (fold_at es (slice_set key place y)))
    where
      same_option : (f : Option Fold) → option_map (λ (x : Fold). x) f ≡ f
      same_option None = refl
      same_option (Some f) = refl
