-- Each leaf below a value that has children is below exactly one of them.
use Rattle.std.proofs.Common.{◌≡◌, ◌≢◌, ℕ, zero, suc, ◌+◌, ◌-◌, ◌<◌, ◌≤◌, Bool, true, false, cond, not, ◌&&◌, ◌||◌, ◌==◌, List, [], ◌∷◌, length, get_or, Option, Some, refl, sym, ap, ◌∙◌, arith}
use Rattle.std.specs.List.{filter, list_any, AllPairs}
use Rattle.std.specs.Prelude.{nat_lt}
use Rattle.std.proofs.lemmas.Bool.Decides.{Decides-eqb, Decides-ltb}
use Rattle.aw_rel.specs.Hierarchy.{Tree, parent_in, is_slot, parent_above, up, is_above, is_within, is_among, slots_in, children_in, is_leaf, IsHierarchy}
use Rattle.aw_rel.specs.Laws.{LeavesAreOfOneChild}
use Rattle.aw_rel.proofs.Steps.{or_right, or_left, same_number, slot_of_test, test_of_slot, some_same, up-sum, before, leads_of, above_by}
use Rattle.aw_rel.proofs.Loops.{no_loop_at}
use Rattle.aw_var.proofs.callers.FiniteMaps.{both_true, and_true}

-- what stands among the values that pass a test on their slots
pub filter_among : (q : ℕ → Bool) (tree : Tree) (v : ℕ) → is_among (slots_in (filter (λ value. q value.0) tree)) v ≡ true → (is_among (slots_in tree) v ≡ true) × (q v ≡ true)
filter_among q [] v h = cc
filter_among q (e ∷ tree) v h =
    elim (q e.0) as (λ b. q e.0 ≡ b → is_among (slots_in (cond b (e ∷ filter (λ value. q value.0) tree) (filter (λ value. q value.0) tree))) v ≡ true → (is_among (slots_in (e ∷ tree)) v ≡ true) × (q v ≡ true)) [
      | true ↦ λ passes within.
          elim (v == e.0) as (λ c. (v == e.0) ≡ c → (c || is_among (slots_in (filter (λ value. q value.0) tree)) v) ≡ true → (is_among (slots_in (e ∷ tree)) v ≡ true) × (q v ≡ true)) [
            | true ↦ λ t _. (or_left (v == e.0) (is_among (slots_in tree) v) t, ap q (same_number v e.0 t) ∙ passes)
            | false ↦ λ _ rest. let r = filter_among q tree v rest in (or_right (v == e.0) (is_among (slots_in tree) v) r.0, r.1)
          ] refl within
      | false ↦ λ _ rest. let r = filter_among q tree v rest in (or_right (v == e.0) (is_among (slots_in tree) v) r.0, r.1)
    ] refl h

pub among_filter : (q : ℕ → Bool) (tree : Tree) (v : ℕ) → is_among (slots_in tree) v ≡ true → q v ≡ true → is_among (slots_in (filter (λ value. q value.0) tree)) v ≡ true
among_filter q [] v among passes = cc
among_filter q (e ∷ tree) v among passes =
    elim (v == e.0) as (λ c. (v == e.0) ≡ c → (c || is_among (slots_in tree) v) ≡ true → is_among (slots_in (cond (q e.0) (e ∷ filter (λ value. q value.0) tree) (filter (λ value. q value.0) tree))) v ≡ true) [
      | true ↦ λ t _. let here : q e.0 ≡ true = ap q (sym (same_number v e.0 t)) ∙ passes in
          ap (λ b. is_among (slots_in (cond b (e ∷ filter (λ (value : ℕ × Option ℕ). q value.0) tree) (filter (λ (value : ℕ × Option ℕ). q value.0) tree))) v) here
          ∙ or_left (v == e.0) (is_among (slots_in (filter (λ value. q value.0) tree)) v) t
      | false ↦ λ _ rest. let r = among_filter q tree v rest passes in
          elim (q e.0) as (λ b. is_among (slots_in (cond b (e ∷ filter (λ value. q value.0) tree) (filter (λ value. q value.0) tree))) v ≡ true) [
            | true ↦ or_right (v == e.0) (is_among (slots_in (filter (λ value. q value.0) tree)) v) r
            | false ↦ r
          ]
    ] refl among

-- where a slot stands
place_of : (xs : List ℕ) (x d : ℕ) → is_among xs x ≡ true → (k : ℕ) × (k < length xs) × (get_or xs k d ≡ x)
place_of [] x d h = cc
place_of (y ∷ xs) x d h =
    elim (x == y) as (λ b. (x == y) ≡ b → (b || is_among xs x) ≡ true → (k : ℕ) × (k < length (y ∷ xs)) × (get_or (y ∷ xs) k d ≡ x)) [
      | true ↦ λ t _. (zero, omega arith, sym (same_number x y t))
      | false ↦ λ _ rest. let r = place_of xs x d rest in (suc r.0, omega (arith, r.1), r.2)
    ] refl h

head_apart : (x : ℕ) (xs : List ℕ) → AllPairs (λ one other. one ≢ other) (x ∷ xs) → is_among xs x ≡ true → ⊥
head_apart x xs apart among = let p = place_of xs x x among in apart zero (suc p.0) x (omega arith) (omega (arith, p.1)) (sym p.2)

tail_apart : (x : ℕ) (xs : List ℕ) → AllPairs (λ one other. one ≢ other) (x ∷ xs) → AllPairs (λ one other. one ≢ other) xs
tail_apart x xs apart i j d less within = apart (suc i) (suc j) d (omega (arith, less)) (omega (arith, within))

-- a child stands among the values
child_among : (tree : Tree) (slot child : ℕ) → is_among (children_in tree slot) child ≡ true → is_among (slots_in tree) child ≡ true
child_among [] slot child h = cc
child_among (e ∷ tree) slot child h =
    elim (is_slot slot e.1) as (λ b. is_among (slots_in (cond b (e ∷ filter (λ value. is_slot slot value.1) tree) (filter (λ value. is_slot slot value.1) tree))) child ≡ true → is_among (slots_in (e ∷ tree)) child ≡ true) [
      | true ↦ λ within.
          elim (child == e.0) as (λ c. (child == e.0) ≡ c → (c || is_among (children_in tree slot) child) ≡ true → is_among (slots_in (e ∷ tree)) child ≡ true) [
            | true ↦ λ t _. or_left (child == e.0) (is_among (slots_in tree) child) t
            | false ↦ λ _ rest. or_right (child == e.0) (is_among (slots_in tree) child) (child_among tree slot child rest)
          ] refl within
      | false ↦ λ rest. or_right (child == e.0) (is_among (slots_in tree) child) (child_among tree slot child rest)
    ] h

-- the parent of a child
pub child_parent : (tree : Tree) (slot child : ℕ) → AllPairs (λ one other. one ≢ other) (slots_in tree) → is_among (children_in tree slot) child ≡ true → parent_in tree child ≡ Some slot
child_parent [] slot child apart h = cc
child_parent (e ∷ tree) slot child apart h =
    elim (e.0 == child) as (λ b. (e.0 == child) ≡ b → cond b e.1 (parent_in tree child) ≡ Some slot) [
      | true ↦ λ t.
          let same = same_number e.0 child t in
          elim (is_slot slot e.1) as (λ b. is_slot slot e.1 ≡ b → is_among (slots_in (cond b (e ∷ filter (λ value. is_slot slot value.1) tree) (filter (λ value. is_slot slot value.1) tree))) child ≡ true → e.1 ≡ Some slot) [
            | true ↦ λ is _. slot_of_test slot e.1 is
            | false ↦ λ _ rest. absurd (head_apart e.0 (slots_in tree) apart (ap (is_among (slots_in tree)) same ∙ child_among tree slot child rest))
          ] refl h
      | false ↦ λ t.
          let other : (child == e.0) ≡ true → ⊥ = λ s. let u = (Decides-eqb e.0 child).1 (sym (same_number child e.0 s)) in cc in
          child_parent tree slot child (tail_apart e.0 (slots_in tree) apart)
          (elim (is_slot slot e.1) as (λ b. is_among (slots_in (cond b (e ∷ filter (λ value. is_slot slot value.1) tree) (filter (λ value. is_slot slot value.1) tree))) child ≡ true → is_among (children_in tree slot) child ≡ true) [
            | true ↦ λ within.
                elim (child == e.0) as (λ c. (child == e.0) ≡ c → (c || is_among (children_in tree slot) child) ≡ true → is_among (children_in tree slot) child ≡ true) [
                  | true ↦ λ s _. absurd (other s)
                  | false ↦ λ _ rest. rest
                ] refl within
            | false ↦ λ rest. rest
          ] h)
    ] refl

pub parent_child : (tree : Tree) (slot child : ℕ) → parent_in tree child ≡ Some slot → is_among (children_in tree slot) child ≡ true
parent_child [] slot child h = cc
parent_child (e ∷ tree) slot child h =
    elim (e.0 == child) as (λ b. (e.0 == child) ≡ b → cond b e.1 (parent_in tree child) ≡ Some slot → is_among (children_in (e ∷ tree) slot) child ≡ true) [
      | true ↦ λ t one.
          ap (λ b. is_among (slots_in (cond b (e ∷ filter (λ (value : ℕ × Option ℕ). is_slot slot value.1) tree) (filter (λ (value : ℕ × Option ℕ). is_slot slot value.1) tree))) child) (test_of_slot slot e.1 one)
          ∙ or_left (child == e.0) (is_among (children_in tree slot) child) ((Decides-eqb child e.0).1 (sym (same_number e.0 child t)))
      | false ↦ λ _ rest.
          let r = parent_child tree slot child rest in
          elim (is_slot slot e.1) as (λ b. is_among (slots_in (cond b (e ∷ filter (λ value. is_slot slot value.1) tree) (filter (λ value. is_slot slot value.1) tree))) child ≡ true) [
            | true ↦ or_right (child == e.0) (is_among (children_in tree slot) child) r
            | false ↦ r
          ]
    ] refl h

no_children : (tree : Tree) (slot : ℕ) → is_leaf tree slot ≡ true → children_in tree slot ≡ []
no_children [] slot h = refl
no_children (e ∷ tree) slot h =
    elim (is_slot slot e.1) as (λ b. not (b || list_any (λ value. is_slot slot value.1) tree) ≡ true → slots_in (cond b (e ∷ filter (λ value. is_slot slot value.1) tree) (filter (λ value. is_slot slot value.1) tree)) ≡ []) [
      | true ↦ λ none. cc
      | false ↦ λ rest. no_children tree slot rest
    ] h

-- two numbers of steps don't lead from a value to one and the same
meets_once : (tree : Tree) (leaf slot i j : ℕ) → IsHierarchy tree → is_among (slots_in tree) slot ≡ true → i < j → j ≤ i + length tree → up tree i leaf ≡ Some slot → up tree j leaf ≡ Some slot → ⊥
meets_once tree leaf slot i j h among less few one other =
    no_loop_at tree tree slot h.no_loop among
    (above_by tree (length tree) slot slot (j - i) (omega (arith, less)) (omega (arith, few, less)) (sym (up-sum tree (j - i) i j leaf slot (omega (arith, less)) one) ∙ other))

-- steps from a value to one that it is, or is below
record Climbs (tree : Tree) (from slot : ℕ) : Type 0 where
  steps : ℕ
  few : steps ≤ length tree
  leads : up tree steps from ≡ Some slot

climbs : (tree : Tree) (from slot : ℕ) → is_within tree slot from ≡ true → Climbs tree from slot
climbs tree from slot h =
    elim (slot == from) as (λ b. (slot == from) ≡ b → (b || is_above tree from slot) ≡ true → Climbs tree from slot) [
      | true ↦ λ t _. record { steps = zero; few = omega arith; leads = ap (λ (n : ℕ). Some n) (sym (same_number slot from t)) }
      | false ↦ λ _ above. let l = leads_of tree (length tree) from slot above in record { steps = l.steps; few = l.most_steps; leads = l.leads }
    ] refl h

within_by : (tree : Tree) (from slot steps : ℕ) → steps ≤ length tree → up tree steps from ≡ Some slot → is_within tree slot from ≡ true
within_by tree from slot zero few e = let s : Some from ≡ Some slot = e in let same : slot ≡ from = cc in or_left (slot == from) (is_above tree from slot) ((Decides-eqb slot from).1 same)
within_by tree from slot (suc steps) few e = or_right (slot == from) (is_above tree from slot) (above_by tree (length tree) from slot (suc steps) (omega arith) few e)

-- a leaf that is a value or below it
abbrev leaf_test : Tree → ℕ → ℕ → Bool
leaf_test tree slot = λ leaf. is_leaf tree leaf && is_within tree slot leaf

pub leaves_are_of_one_child : LeavesAreOfOneChild
leaves_are_of_one_child tree slot leaf h some below =
    let found = filter_among (leaf_test tree slot) tree leaf below in
    let tests = both_true (is_leaf tree leaf) (is_within tree slot leaf) found.1 in
    let way = climbs tree leaf slot tests.1 in
    let other : way.steps ≡ 0 → ⊥ = λ e. let s : Some leaf ≡ Some slot = ap (λ n. up tree n leaf) (sym e) ∙ way.leads in let same : leaf ≡ slot = cc in
    some (no_children tree slot (ap (is_leaf tree) (sym same) ∙ tests.0)) in
    let last : way.steps ≡ suc (way.steps - 1) = omega (arith, other) in
    let b = before tree (way.steps - 1) leaf slot (ap (λ n. up tree n leaf) (sym last) ∙ way.leads) in
    let few : way.steps - 1 ≤ length tree = omega (arith, way.few) in
    let among = h.parents b.value slot b.parent in
    record {
      child = b.value;
      is_child = parent_child tree slot b.value b.parent;
      below = among_filter (leaf_test tree b.value) tree leaf found.0 (and_true (is_leaf tree leaf) (is_within tree b.value leaf) tests.0 (within_by tree leaf b.value (way.steps - 1) few b.leads));
      alone = λ o is_child its.
          let parent = child_parent tree slot o h.apart is_child in
          let there = filter_among (leaf_test tree o) tree leaf its in
          let path = climbs tree leaf o (both_true (is_leaf tree leaf) (is_within tree o leaf) there.1).1 in
          let arrives : up tree (suc path.steps) leaf ≡ Some slot = ap (parent_above tree) path.leads ∙ parent in
          elim (path.steps == way.steps - 1) as (λ t. (path.steps == way.steps - 1) ≡ t → o ≡ b.value) [
            | true ↦ λ t. some_same o b.value (up tree (way.steps - 1) leaf) (ap (λ n. up tree n leaf) (sym (same_number path.steps (way.steps - 1) t)) ∙ path.leads) b.leads
            | false ↦ λ t.
                let differ : path.steps ≡ way.steps - 1 → ⊥ = λ e. let u = (Decides-eqb path.steps (way.steps - 1)).1 e in cc in
                elim (nat_lt way.steps (suc path.steps)) as (λ l. nat_lt way.steps (suc path.steps) ≡ l → o ≡ b.value) [
                  | true ↦ λ l. absurd (meets_once tree leaf slot way.steps (suc path.steps) h among ((Decides-ltb way.steps (suc path.steps)).0 l) (omega (arith, path.few, other)) way.leads arrives)
                  | false ↦ λ l.
                      let no : way.steps < suc path.steps → ⊥ = λ s. let u = (Decides-ltb way.steps (suc path.steps)).1 s in cc in
                      absurd (meets_once tree leaf slot (suc path.steps) way.steps h among (omega (arith, no, differ, other)) (omega (arith, way.few)) arrives way.leads)
                ] refl
          ] refl;
    }
