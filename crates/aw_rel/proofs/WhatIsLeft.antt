-- What is cleared stands on no loop, and what is left stands on one.
use Rattle.std.proofs.Common.{◌≡◌, ℕ, zero, suc, ◌-◌, ◌<◌, Bool, true, false, cond, not, ◌||◌, ◌==◌, inl, inr, List, [], ◌∷◌, length, slice_get, Option, Some, None, refl, sym, ap, ◌∙◌, arith}
use Rattle.std.specs.List.{find, filter}
use Rattle.std.specs.Option.{option_map}
use Rattle.std.proofs.lemmas.Bool.Decides.{Decides-eqb}
use Rattle.aw_rel.specs.Hierarchy.{parent_in, is_slot, up, is_above, is_among, slots_in, children_in}
use Rattle.aw_rel.specs.inside.Tables.{parent_at, tree_by, AreParents, children_among}
use Rattle.aw_rel.specs.inside.Clearing.{is_cleared, IsSettled, IsClearing}
use Rattle.aw_rel.proofs.Steps.{or_right, or_left, same_number, number_itself, up-sum, before, leads_of, above_by, comes_back}
use Rattle.aw_rel.proofs.Loops.{goes_round, leads_among}

pub slots-by : (slots : List ℕ) (parents : List (Option ℕ)) → slots_in (tree_by slots parents) ≡ slots
slots-by [] parents = refl
slots-by (x ∷ slots) parents = ap (λ (l : List ℕ). x ∷ l) (slots-by slots parents)

pub length-by : (slots : List ℕ) (parents : List (Option ℕ)) → length (tree_by slots parents) ≡ length slots
length-by [] parents = refl
length-by (x ∷ slots) parents = ap suc (length-by slots parents)

-- the parent of a value is the one at its slot
parent_of_one : (slots : List ℕ) (parents : List (Option ℕ)) (slot : ℕ) → parent_in (tree_by slots parents) slot ≡ cond (is_among slots slot) (parent_at parents slot) None
parent_of_one [] parents slot = refl
parent_of_one (x ∷ slots) parents slot =
    elim (x == slot) as (λ b. (x == slot) ≡ b → cond b (parent_at parents x) (parent_in (tree_by slots parents) slot) ≡ cond ((slot == x) || is_among slots slot) (parent_at parents slot) None) [
      | true ↦ λ t.
          let same = same_number x slot t in
          ap (parent_at parents) same ∙ ap (λ b. cond b (parent_at parents slot) None) (sym (or_left (slot == x) (is_among slots slot) ((Decides-eqb slot x).1 (sym same))))
      | false ↦ λ t.
          let differ : (slot == x) ≡ false = elim (slot == x) as (λ b. (slot == x) ≡ b → b ≡ false) [
            | true ↦ λ s. let u = (Decides-eqb x slot).1 (sym (same_number slot x s)) in cc
            | false ↦ λ _. refl
          ] refl in
          parent_of_one slots parents slot ∙ ap (λ b. cond (b || is_among slots slot) (parent_at parents slot) None) (sym differ)
    ] refl

-- where other slots have no parents, so it is of all slots
pub parent-by : (slots : List ℕ) (parents : List (Option ℕ)) (parent : ℕ → Option ℕ) (slot : ℕ) → AreParents parent slots parents → parent_at parents slot ≡ parent_in (tree_by slots parents) slot
parent-by slots parents parent slot are =
    sym (parent_of_one slots parents slot
    ∙ elim (is_among slots slot) as (λ b. is_among slots slot ≡ b → cond b (parent_at parents slot) None ≡ parent_at parents slot) [
      | true ↦ λ _. refl
      | false ↦ λ out. sym (are slot ∙ ap (λ b. cond b (parent slot) None) out)
    ] refl)

-- the children of a value are those at its slot
pub children-by : (slots : List ℕ) (parents : List (Option ℕ)) (slot : ℕ) → children_among parents slots slot ≡ children_in (tree_by slots parents) slot
children-by [] parents slot = refl
children-by (x ∷ slots) parents slot =
    let rest = children-by slots parents slot in
    elim (is_slot slot (parent_at parents x)) as (λ b. cond b (x ∷ children_among parents slots slot) (children_among parents slots slot) ≡ slots_in (cond b ((x, parent_at parents x) ∷ filter (λ value. is_slot slot value.1) (tree_by slots parents)) (filter (λ value. is_slot slot value.1) (tree_by slots parents)))) [
      | true ↦ ap (λ (l : List ℕ). x ∷ l) rest
      | false ↦ rest
    ]

-- where a value stands in a list
pub at_place : (xs : List ℕ) (x : ℕ) → is_among xs x ≡ true → (place : ℕ) × (slice_get xs place ≡ Some x)
at_place [] x h = cc
at_place (y ∷ xs) x h =
    elim (x == y) as (λ b. (x == y) ≡ b → (b || is_among xs x) ≡ true → (place : ℕ) × (slice_get (y ∷ xs) place ≡ Some x)) [
      | true ↦ λ t _. (zero, ap (λ (n : ℕ). Some n) (sym (same_number x y t)))
      | false ↦ λ _ rest. let r = at_place xs x rest in (suc r.0, r.1)
    ] refl h

pub among_at : (xs : List ℕ) (place x : ℕ) → slice_get xs place ≡ Some x → is_among xs x ≡ true
among_at [] place x h = cc
among_at (y ∷ xs) zero x h = let same : x ≡ y = cc in or_left (x == y) (is_among xs x) ((Decides-eqb x y).1 same)
among_at (y ∷ xs) (suc place) x h = or_right (x == y) (is_among xs x) (among_at xs place x h)

module _ (slots : List ℕ) (parents : List (Option ℕ)) (children : List (List ℕ)) (cleared : List Bool) (passed upward : List ℕ) (clearing : IsClearing parents children cleared passed upward)
    (same : (slot : ℕ) → parent_at parents slot ≡ parent_in (tree_by slots parents) slot) where
  -- what leads to a cleared value is cleared, and stands before it
  record Earlier (x y : ℕ) : Type 0 where
    below : is_cleared cleared x ≡ true
    order : (i j : ℕ) → slice_get upward i ≡ Some x → slice_get upward j ≡ Some y → i < j

  earlier : (steps x y : ℕ) → up (tree_by slots parents) (suc steps) x ≡ Some y → is_cleared cleared y ≡ true → Earlier x y
  earlier zero x y e above =
      let parent : parent_at parents x ≡ Some y = same x ∙ e in
      record { below = clearing.closed y x parent above; order = λ i j a b. clearing.rising i j x y a parent b }
  earlier (suc steps) x y e above =
      let b = before (tree_by slots parents) (suc steps) x y e in
      let parent : parent_at parents b.value ≡ Some y = same b.value ∙ b.parent in
      let between = clearing.closed y b.value parent above in
      let rest = earlier steps x b.value b.leads between in
      let at = at_place upward b.value (clearing.listed b.value between) in
      record {
        below = rest.below;
        order = λ i j first last. let one = rest.order i at.0 first at.1 in let two = clearing.rising at.0 j b.value y at.1 parent last in omega (arith, one, two);
      }

  -- a cleared value stands on no loop
  pub cleared_off : (x : ℕ) → is_cleared cleared x ≡ true → is_above (tree_by slots parents) x x ≡ false
  cleared_off x h =
      elim (is_above (tree_by slots parents) x x) as (λ b. is_above (tree_by slots parents) x x ≡ b → b ≡ false) [
        | true ↦ λ t.
            let l = leads_of (tree_by slots parents) (length (tree_by slots parents)) x x t in
            let e = earlier (l.steps - 1) x x (ap (λ n. up (tree_by slots parents) n x) (let last : suc (l.steps - 1) ≡ l.steps = omega (arith, l.least) in last) ∙ l.leads) h in
            let at = at_place upward x (clearing.listed x h) in
            absurd (omega (arith, e.order at.0 at.0 at.1 at.1))
        | false ↦ λ _. refl
      ] refl

  -- a value that isn't cleared, from which so many steps lead to another
  record Under (steps x : ℕ) : Type 0 where
    value : ℕ
    leads : up (tree_by slots parents) steps value ≡ Some x
    among : is_among slots value ≡ true
    uncleared : is_cleared cleared value ≡ false

  under : ((slot : ℕ) → is_among slots slot ≡ true → IsSettled parents cleared slot) → ((slot above : ℕ) → parent_at parents slot ≡ Some above → is_among slots slot ≡ true) → (steps x : ℕ) → is_among slots x ≡ true → is_cleared cleared x ≡ false → Under steps x
  under settled values zero x among uncleared = record { value = x; leads = refl; among = among; uncleared = uncleared }
  under settled values (suc steps) x among uncleared =
      let u = under settled values steps x among uncleared in
      elim (settled u.value u.among) [
        | inl clear ↦ let no = u.uncleared in cc
        | inr w ↦ record {
          value = w.child;
          leads = up-sum (tree_by slots parents) steps 1 (suc steps) w.child u.value (omega arith) (sym (same w.child) ∙ w.parent) ∙ u.leads;
          among = values w.child u.value w.parent;
          uncleared = w.uncleared;
        }
      ]

  -- and a value that is left stands on one
  pub left_on : ((slot : ℕ) → is_among slots slot ≡ true → IsSettled parents cleared slot) → ((slot above : ℕ) → parent_at parents slot ≡ Some above → (is_among slots slot ≡ true) × (is_among slots above ≡ true)) →
      (x : ℕ) → is_among slots x ≡ true → is_cleared cleared x ≡ false → is_above (tree_by slots parents) x x ≡ true
  left_on settled values x among uncleared =
      let tree = tree_by slots parents in
      let n = length tree in
      let u = under settled (λ slot above e. (values slot above e).0) n x among uncleared in
      let r = goes_round tree slots n u.value x (omega (arith, length-by slots parents)) u.leads
      (λ j y e. leads_among tree slots (λ slot above p. (values slot above (same slot ∙ p)).1) j u.value y u.among e) in
      let on : up tree (n - r.start) r.value ≡ Some x = sym (up-sum tree (n - r.start) r.start n u.value r.value (omega (arith, r.few)) r.leads) ∙ u.leads in
      above_by tree n x x r.steps r.least r.most_steps (comes_back tree r.steps (n - r.start) r.value x r.round on)

-- so the first value that isn't cleared is the first on a loop
pub first_left : (all slots : List ℕ) (parents : List (Option ℕ)) (cleared : List Bool) → ((x : ℕ) → is_among slots x ≡ true → is_above (tree_by all parents) x x ≡ not (is_cleared cleared x)) →
    option_map (λ (value : ℕ × Option ℕ). value.0) (find (λ value. is_above (tree_by all parents) value.0 value.0) (tree_by slots parents)) ≡ find (λ slot. not (is_cleared cleared slot)) slots
first_left all [] parents cleared tests = refl
first_left all (x ∷ slots) parents cleared tests =
    let here = tests x (or_left (x == x) (is_among slots x) (number_itself x)) in
    let rest = first_left all slots parents cleared (λ y among. tests y (or_right (y == x) (is_among slots y) among)) in
    ap (λ b. option_map (λ (value : ℕ × Option ℕ). value.0) (cond b (Some (x, parent_at parents x)) (find (λ value. is_above (tree_by all parents) value.0 value.0) (tree_by slots parents)))) here
    ∙ elim (not (is_cleared cleared x)) as (λ b. option_map (λ (value : ℕ × Option ℕ). value.0) (cond b (Some (x, parent_at parents x)) (find (λ value. is_above (tree_by all parents) value.0 value.0) (tree_by slots parents))) ≡ cond b (Some x) (find (λ slot. not (is_cleared cleared slot)) slots)) [
      | true ↦ refl
      | false ↦ rest
    ]
