-- Which values are one, or below it, and the leaves among them.
use Rattle.std.proofs.Common.{◌≡◌, ℕ, ◌+◌, ◌-◌, ◌<◌, ◌≤◌, Bool, true, false, cond, not, ◌&&◌, ◌||◌, ◌==◌, List, [], ◌∷◌, length, slice_get, slice_set, get_or, Option, Some, None, Result, Ok, Err, IfOk, refl, sym, ap, subst, ◌∙◌, arith}
use Rattle.std.specs.List.{filter, list_any}
use Rattle.std.specs.declared.alloc.AllocError.{AllocError}
use Rattle.std.proofs.lemmas.Bool.Decides.{Decides-eqb}
use Rattle.aw_rel.specs.Hierarchy.{Tree, is_slot, is_above, is_within, is_among, is_leaf, slots_in, children_in, leaves_in}
use Rattle.aw_rel.specs.inside.Tables.{parent_at, children_at, tree_by, has_none, IsHeld}
use Rattle.aw_rel.specs.inside.Clearing.{is_cleared, is_marked}
use Rattle.aw_rel.proofs.Steps.{same_number, number_itself}
use Rattle.aw_rel.proofs.Loops.{within-some, within-none}
use Rattle.std.proofs.lemmas.Option.{slice_get-get_or}
use Rattle.aw_rel.proofs.WhatIsLeft.{slots-by, at_place, among_at}
use Rattle.aw_rel.proofs.Filling.{read-set}

-- the values from a place on are marked
abbrev pub Marked : Tree → List ℕ → List Bool → ℕ → ℕ → Type 0
Marked tree upward within slot left = (place value : ℕ) → left ≤ place → slice_get upward place ≡ Some value → is_cleared within value ≡ is_within tree slot value

marks_one : (slots : List ℕ) (parents : List (Option ℕ)) (children : List (List ℕ)) (upward : List ℕ) (within : List Bool) (slot left value : ℕ) → IsHeld slots parents children upward → slice_get upward left ≡ Some value →
    Marked (tree_by slots parents) upward within slot (left + 1) → is_above (tree_by slots parents) value slot ≡ is_marked within (parent_at parents value)
marks_one slots parents children upward within slot left value held is marked =
    let tree = tree_by slots parents in
    elim (parent_at parents value) as (λ o. parent_at parents value ≡ o → is_above tree value slot ≡ is_marked within o) [
      | None ↦ λ none. within-none tree value slot (sym (held.found value) ∙ none)
      | Some above ↦ λ parent.
          let there = sym (held.found value) ∙ parent in
          let among : is_among (slots_in tree) value ≡ true = ap (λ (l : List ℕ). is_among l value) (slots-by slots parents) ∙ held.child value above parent in
          let its = held.hierarchy.parents value above there in
          let at = at_place upward above (held.all above (ap (λ (l : List ℕ). is_among l above) (sym (slots-by slots parents)) ∙ its)) in
          let later = held.rising left at.0 value above is parent at.1 in
          within-some tree value above slot held.hierarchy among there ∙ sym (marked at.0 above (omega (arith, later)) at.1)
    ] refl

pub Marked-more : (slots : List ℕ) (parents : List (Option ℕ)) (children : List (List ℕ)) (upward : List ℕ) (within : List Bool) (slot left value : ℕ) → IsHeld slots parents children upward → slice_get upward left ≡ Some value → value < length within →
    Marked (tree_by slots parents) upward within slot (left + 1) → Marked (tree_by slots parents) upward (slice_set within value ((slot == value) || is_marked within (parent_at parents value))) slot left
Marked-more slots parents children upward within slot left value held is room marked = λ place other from at.
    let tree = tree_by slots parents in
    let here : ((slot == value) || is_marked within (parent_at parents value)) ≡ is_within tree slot value = ap (λ b. (slot == value) || b) (sym (marks_one slots parents children upward within slot left value held is marked)) in
    read-set within value other ((slot == value) || is_marked within (parent_at parents value)) false room
    ∙ elim (other == value) as (λ b. (other == value) ≡ b → cond b ((slot == value) || is_marked within (parent_at parents value)) (is_cleared within other) ≡ is_within tree slot other) [
      | true ↦ λ t. here ∙ ap (is_within tree slot) (sym (same_number other value t))
      | false ↦ λ t.
          let later : place ≡ left → ⊥ = λ e. let s : Some other ≡ Some value = sym at ∙ ap (slice_get upward) e ∙ is in let same : other ≡ value = cc in let u = (Decides-eqb other value).1 same in cc in
          marked place other (omega (arith, from, later)) at
    ] refl

-- at the end every value is
pub Marked-all : (slots : List ℕ) (parents : List (Option ℕ)) (children : List (List ℕ)) (upward : List ℕ) (within : List Bool) (slot value : ℕ) → IsHeld slots parents children upward → Marked (tree_by slots parents) upward within slot 0 →
    is_among (slots_in (tree_by slots parents)) value ≡ true → is_cleared within value ≡ is_within (tree_by slots parents) slot value
Marked-all slots parents children upward within slot value held marked among =
    let at = at_place upward value (held.all value (ap (λ (l : List ℕ). is_among l value) (sym (slots-by slots parents)) ∙ among)) in
    marked at.0 value (omega arith) at.1

-- a value without children is nobody's parent
leaf-children : (tree : Tree) (slot : ℕ) → has_none (children_in tree slot) ≡ is_leaf tree slot
leaf-children [] slot = refl
leaf-children (e ∷ tree) slot =
    let rest = leaf-children tree slot in
    elim (is_slot slot e.1) as (λ b. has_none (slots_in (cond b (e ∷ filter (λ value. is_slot slot value.1) tree) (filter (λ value. is_slot slot value.1) tree))) ≡ not (b || list_any (λ value. is_slot slot value.1) tree)) [
      | true ↦ refl
      | false ↦ rest
    ]

filter_by : (all slots : List ℕ) (parents : List (Option ℕ)) (test q : ℕ → Bool) → ((value : ℕ) → is_among slots value ≡ true → test value ≡ q value) → filter test slots ≡ slots_in (filter (λ value. q value.0) (tree_by slots parents))
filter_by all [] parents test q same = refl
filter_by all (x ∷ slots) parents test q same =
    let rest = filter_by all slots parents test q (λ value among. same value (or_later (value == x) (is_among slots value) among)) in
    ap (λ b. cond b (x ∷ filter test slots) (filter test slots)) (same x (or_now (x == x) (is_among slots x) (number_itself x)))
    ∙ elim (q x) as (λ b. cond b (x ∷ filter test slots) (filter test slots) ≡ slots_in (cond b ((x, parent_at parents x) ∷ filter (λ value. q value.0) (tree_by slots parents)) (filter (λ value. q value.0) (tree_by slots parents)))) [
      | true ↦ ap (λ (l : List ℕ). x ∷ l) rest
      | false ↦ rest
    ]
  where
    or_later : (a b : Bool) → b ≡ true → (a || b) ≡ true
    or_later true b h = refl
    or_later false b h = h

    or_now : (a b : Bool) → a ≡ true → (a || b) ≡ true
    or_now true b h = refl
    or_now false b h = cc

-- so the leaves that are marked are those of the hierarchy
pub leaves-marked : (slots : List ℕ) (parents : List (Option ℕ)) (children : List (List ℕ)) (upward : List ℕ) (within : List Bool) (slot : ℕ) (now : Tree) → IsHeld slots parents children upward → tree_by slots parents ≡ now →
    ((value : ℕ) → is_among (slots_in now) value ≡ true → is_cleared within value ≡ is_within now slot value) → filter (λ value. has_none (children_at children value) && is_cleared within value) slots ≡ leaves_in now slot
leaves-marked slots parents children upward within slot now held is marked =
    let tree = tree_by slots parents in
    let marks = subst (λ (t : Tree). (value : ℕ) → is_among (slots_in t) value ≡ true → is_cleared within value ≡ is_within t slot value) (sym is) marked in
    filter_by slots slots parents (λ value. has_none (children_at children value) && is_cleared within value) (λ value. is_leaf tree value && is_within tree slot value)
    (λ value among.
    (λ i. (ap has_none (held.kin value) ∙ leaf-children tree value) i && marks value (ap (λ (l : List ℕ). is_among l value) (slots-by slots parents) ∙ among) i))
    ∙ ap (λ (t : Tree). leaves_in t slot) is

-- one more value is marked, as the code has the tables
pub within-step : (slots : List ℕ) (parents parents' : List (Option ℕ)) (children : List (List ℕ)) (upward upward' : List ℕ) (within marks : List Bool) (slot left at : ℕ) (above : Bool) (now : Tree) → IsHeld slots parents children upward → tree_by slots parents ≡ now → upward' ≡ upward → parents' ≡ parents →
    marks ≡ within → 0 < left → left ≤ length upward' → at ≡ get_or upward' (left - 1) 0 → length within ≡ length parents' → above ≡ is_marked marks (get_or parents' at None) → Marked now upward' within slot left →
    Marked now upward' (slice_set within at ((slot == get_or upward' (left - 1) 0) || above)) slot (left - 1)
within-step slots parents parents' children upward upward' within marks slot left at above now held is same table marking some few at_is long above_is marked =
    let value = get_or upward (left - 1) 0 in
    let value_is : get_or upward' (left - 1) 0 ≡ value = ap (λ (l : List ℕ). get_or l (left - 1) 0) same in
    let here = at_is ∙ value_is in
    let lengths = ap (λ (l : List ℕ). length l) same in
    let tables = ap (λ (l : List (Option ℕ)). length l) table in
    let found : slice_get upward (left - 1) ≡ Some value = slice_get-get_or upward (left - 1) 0 (omega (arith, some, few, lengths)) in
    let room = held.room value (among_at upward (left - 1) value found) in
    let last : left - 1 + 1 ≡ left = omega (arith, some) in
    let before : Marked (tree_by slots parents) upward within slot (left - 1 + 1) =
    λ place other from there. (ap (is_cleared within) refl) ∙ marked place other (omega (arith, from, last)) (ap (λ (l : List ℕ). slice_get l place) same ∙ there) ∙ ap (λ (t : Tree). is_within t slot other) (sym is) in
    let more = Marked-more slots parents children upward within slot (left - 1) value held found (omega (arith, room, long, tables)) before in
    let test : ((slot == get_or upward' (left - 1) 0) || above) ≡ ((slot == value) || is_marked within (parent_at parents value)) =
    (λ i. (slot == value_is i) || (above_is ∙ ap (λ (m : List Bool). is_marked m (get_or parents' at None)) marking ∙ ap (λ (t : List (Option ℕ)). is_marked within (get_or t at None)) table ∙ ap (λ n. is_marked within (parent_at parents n)) here) i) in
    λ place other from there.
    ap (λ n. is_cleared (slice_set within n ((slot == get_or upward' (left - 1) 0) || above)) other) here
    ∙ ap (λ b. is_cleared (slice_set within value b) other) test
    ∙ more place other from (ap (λ (l : List ℕ). slice_get l place) (sym same) ∙ there)
    ∙ ap (λ (t : Tree). is_within t slot other) is

pub within-done : (slots : List ℕ) (parents : List (Option ℕ)) (children : List (List ℕ)) (upward upward' : List ℕ) (within : List Bool) (slot left : ℕ) (now : Tree) → IsHeld slots parents children upward → tree_by slots parents ≡ now → upward' ≡ upward → left ≡ 0 →
    Marked now upward' within slot left → (value : ℕ) → is_among (slots_in now) value ≡ true → is_cleared within value ≡ is_within now slot value
within-done slots parents children upward upward' within slot left now held is same none marked value among =
    let at = at_place upward value (held.all value (ap (λ (l : List ℕ). is_among l value) (sym (slots-by slots parents) ∙ ap slots_in is) ∙ among)) in
    marked at.0 value (omega (arith, none)) (ap (λ (l : List ℕ). slice_get l at.0) same ∙ at.1)

pub within-room : (slots : List ℕ) (parents : List (Option ℕ)) (children : List (List ℕ)) (upward : List ℕ) (now : Tree) (value : ℕ) → IsHeld slots parents children upward → tree_by slots parents ≡ now → is_among (slots_in now) value ≡ true → value < length parents
within-room slots parents children upward now value held is among = held.below.value value (ap (λ (l : List ℕ). is_among l value) (sym (slots-by slots parents) ∙ ap slots_in is) ∙ among)

-- a value on the way up has a place in the tables
pub upward-room : (slots : List ℕ) (parents parents' : List (Option ℕ)) (children : List (List ℕ)) (upward upward' : List ℕ) (left at : ℕ) → IsHeld slots parents children upward → upward' ≡ upward → parents' ≡ parents → 0 < left → left ≤ length upward' → at ≡ get_or upward' (left - 1) 0 → at < length parents'
upward-room slots parents parents' children upward upward' left at held same table some few at_is =
    let lengths = ap (λ (l : List ℕ). length l) same in
    let tables = ap (λ (l : List (Option ℕ)). length l) table in
    let room = held.room (get_or upward (left - 1) 0) (among_at upward (left - 1) (get_or upward (left - 1) 0) (slice_get-get_or upward (left - 1) 0 (omega (arith, some, few, lengths)))) in
    let here = at_is ∙ ap (λ (l : List ℕ). get_or l (left - 1) 0) same in
    omega (arith, room, tables, here)

-- a value of the hierarchy is among its slots
pub among_held : (slots given : List ℕ) (parents : List (Option ℕ)) (now : Tree) (slot : ℕ) → tree_by slots parents ≡ now → given ≡ slots → is_among given slot ≡ true → is_among (slots_in now) slot ≡ true
among_held slots given parents now slot is same among = ap (λ (l : List ℕ). is_among l slot) (sym (ap slots_in is) ∙ slots-by slots parents ∙ sym same) ∙ among

-- what was picked are the leaves
pub leaves-picked : (slots given : List ℕ) (parents : List (Option ℕ)) (children given' : List (List ℕ)) (upward : List ℕ) (within marks : List Bool) (slot : ℕ) (now : Tree) (r : Result (List ℕ) AllocError) → IsHeld slots parents children upward → tree_by slots parents ≡ now → given ≡ slots → given' ≡ children → marks ≡ within →
    ((value : ℕ) → is_among (slots_in now) value ≡ true → is_cleared within value ≡ is_within now slot value) → IfOk r (λ leaves. leaves ≡ filter (λ value. has_none (children_at given' value) && is_cleared marks value) given) → IfOk r (λ leaves. leaves ≡ leaves_in now slot)
leaves-picked slots given parents children given' upward within marks slot now (Err e) held is same kin marking marked picked = tt
leaves-picked slots given parents children given' upward within marks slot now (Ok leaves) held is same kin marking marked picked =
    picked
    ∙ ap (λ (l : List ℕ). filter (λ value. has_none (children_at given' value) && is_cleared marks value) l) same
    ∙ ap (λ (k : List (List ℕ)). filter (λ value. has_none (children_at k value) && is_cleared marks value) slots) kin
    ∙ ap (λ (m : List Bool). filter (λ value. has_none (children_at children value) && is_cleared m value) slots) marking
    ∙ leaves-marked slots parents children upward within slot now held is marked
