-- A hierarchy that is checked.
use Rattle.std.proofs.Common.{◌≡◌, ◌≢◌, ℕ, zero, suc, ◌+◌, ◌<◌, Bool, true, false, cond, not, ◌||◌, ◌==◌, List, [], ◌∷◌, map, length, slice_get, get_or, Option, Some, None, is_some, refl, sym, ap, subst, ◌∙◌, arith}
use Rattle.std.specs.List.{filter, find, list_any, position_from, All, AllPairs}
use Rattle.std.proofs.lemmas.Bool.Decides.{Decides-eqb}
use Rattle.aw_cell.specs.declared.cell.Cell.{Cell}
use Rattle.aw_cell.specs.declared.cell.Cell.TheVariants.{Na, Num, Int, Text, Bool as BooleanCell, Slot}
use Rattle.aw_dim.specs.DimensionState.{Entry, DimensionState, IsDimension, position_of}
use Rattle.aw_var.specs.CellMap.{Cells, cell_at}
use Rattle.aw_rel.specs.Hierarchy.{parent_in, parent_of, tree_of, is_slot, is_above, is_among, first_loop}
use Rattle.aw_rel.specs.inside.Tables.{parent_at, tree_by, AreParents, AreChildren, children_among, AreBelow, AreKin, IsHeld}
use Rattle.aw_rel.specs.inside.Clearing.{is_cleared, IsSettled, IsClearing}
use Rattle.aw_rel.proofs.Steps.{or_right, or_left, same_number, number_itself, slot_of_test, test_of_slot}
use Rattle.aw_rel.proofs.WhatIsLeft.{slots-by, parent-by, children-by, at_place, cleared_off, left_on, first_left}

-- what stands in a filtered list passes, and stands in the list
filter_at : (test : ℕ → Bool) (xs : List ℕ) (place x : ℕ) → slice_get (filter test xs) place ≡ Some x → (test x ≡ true) × (is_among xs x ≡ true)
filter_at test [] place x h = cc
filter_at test (y ∷ xs) place x h =
    elim (test y) as (λ b. test y ≡ b → slice_get (cond b (y ∷ filter test xs) (filter test xs)) place ≡ Some x → (test x ≡ true) × (is_among (y ∷ xs) x ≡ true)) [
      | true ↦ λ passes at. first passes place at (λ k e. filter_at test xs k x e)
      | false ↦ λ _ at. let r = filter_at test xs place x at in (r.0, or_right (x == y) (is_among xs x) r.1)
    ] refl h
  where
    first : test y ≡ true → (place : ℕ) → slice_get (y ∷ filter test xs) place ≡ Some x → ((k : ℕ) → slice_get (filter test xs) k ≡ Some x → (test x ≡ true) × (is_among xs x ≡ true)) → (test x ≡ true) × (is_among (y ∷ xs) x ≡ true)
    first passes zero at behind = let same : x ≡ y = cc in (ap test same ∙ passes, or_left (x == y) (is_among xs x) ((Decides-eqb x y).1 same))
    first passes (suc place) at behind = let r = behind place at in (r.0, or_right (x == y) (is_among xs x) r.1)

among_filter_by : (test : ℕ → Bool) (xs : List ℕ) (x : ℕ) → is_among xs x ≡ true → test x ≡ true → is_among (filter test xs) x ≡ true
among_filter_by test [] x among passes = cc
among_filter_by test (y ∷ xs) x among passes =
    elim (x == y) as (λ c. (x == y) ≡ c → (c || is_among xs x) ≡ true → is_among (cond (test y) (y ∷ filter test xs) (filter test xs)) x ≡ true) [
      | true ↦ λ t _. ap (λ b. is_among (cond b (y ∷ filter test xs) (filter test xs)) x) (ap test (sym (same_number x y t)) ∙ passes) ∙ or_left (x == y) (is_among (filter test xs) x) t
      | false ↦ λ _ rest.
          let r = among_filter_by test xs x rest passes in
          elim (test y) as (λ b. is_among (cond b (y ∷ filter test xs) (filter test xs)) x ≡ true) [
            | true ↦ or_right (x == y) (is_among (filter test xs) x) r
            | false ↦ r
          ]
    ] refl among

-- a value with a parent is among the values
pub child_is_value : (parent : ℕ → Option ℕ) (slots : List ℕ) (parents : List (Option ℕ)) (slot above : ℕ) → AreParents parent slots parents → parent_at parents slot ≡ Some above → (is_among slots slot ≡ true) × (parent slot ≡ Some above)
child_is_value parent slots parents slot above are is =
    elim (is_among slots slot) as (λ b. is_among slots slot ≡ b → cond b (parent slot) None ≡ Some above → (is_among slots slot ≡ true) × (parent slot ≡ Some above)) [
      | true ↦ λ t e. (t, e)
      | false ↦ λ _ none. cc
    ] refl (sym (are slot) ∙ is)

-- the tables fit each other
pub AreKin-tables : (parent : ℕ → Option ℕ) (slots : List ℕ) (parents : List (Option ℕ)) (children : List (List ℕ)) → AreParents parent slots parents → AreBelow slots parents (length parents) → AreChildren parents slots children → length children ≡ length parents → AreKin parents children
AreKin-tables parent slots parents children are below kin size = record {
  size = size;
  parent = λ slot place child at. slot_of_test slot (parent_at parents child) (filter_at (λ c. is_slot slot (parent_at parents c)) slots place child (ap (λ (l : List ℕ). slice_get l place) (sym (kin slot)) ∙ at)).0;
  place = λ slot child is.
      let among = (child_is_value parent slots parents child slot are is).0 in
      let at = at_place (children_among parents slots slot) child (among_filter_by (λ c. is_slot slot (parent_at parents c)) slots child among (test_of_slot slot (parent_at parents child) is)) in
      (at.0, ap (λ (l : List ℕ). slice_get l at.0) (kin slot) ∙ at.1);
  child = λ slot above is. below.value slot (child_is_value parent slots parents slot above are is).0;
  above = below.parent;
}

-- a slot that a dimension has is that of a value
is_value : (test : Entry → Bool) (i : ℕ) (entries : List Entry) → is_some (position_from test i entries) ≡ list_any test entries
is_value test i [] = refl
is_value test i (e ∷ entries) =
    elim (test e) as (λ b. is_some (cond b (Some i) (position_from test (i + 1) entries)) ≡ (b || list_any test entries)) [
      | true ↦ refl
      | false ↦ is_value test (i + 1) entries
    ]

among_slots : (slot : ℕ) (entries : List Entry) → list_any (λ entry. entry.0 == slot) entries ≡ true → is_among (map (λ entry. entry.0) entries) slot ≡ true
among_slots slot [] h = cc
among_slots slot (e ∷ entries) h =
    elim (e.0 == slot) as (λ b. (e.0 == slot) ≡ b → (b || list_any (λ entry. entry.0 == slot) entries) ≡ true → is_among (map (λ entry. entry.0) (e ∷ entries)) slot ≡ true) [
      | true ↦ λ t _. or_left (slot == e.0) (is_among (map (λ entry. entry.0) entries) slot) ((Decides-eqb slot e.0).1 (sym (same_number e.0 slot t)))
      | false ↦ λ _ rest. or_right (slot == e.0) (is_among (map (λ entry. entry.0) entries) slot) (among_slots slot entries rest)
    ] refl h

parent_is_value : (values : DimensionState) (cell : Cell) (above : ℕ) → parent_of values cell ≡ Some above → is_among (map (λ entry. entry.0) values.entries) above ≡ true
parent_is_value values Na above e = cc
parent_is_value values (Num a) above e = cc
parent_is_value values (Int a) above e = cc
parent_is_value values (Text a) above e = cc
parent_is_value values (BooleanCell a) above e = cc
parent_is_value values (Slot slot) above e =
    elim (is_some (position_of values slot)) as (λ b. is_some (position_of values slot) ≡ b → cond b (Some slot) None ≡ Some above → is_among (map (λ entry. entry.0) values.entries) above ≡ true) [
      | true ↦ λ t s. let same : above ≡ slot = cc in
          ap (is_among (map (λ entry. entry.0) values.entries)) same ∙ among_slots slot values.entries (sym (is_value (λ entry. entry.0 == slot) 0 values.entries) ∙ t)
      | false ↦ λ _ none. cc
    ] refl e

-- the slots of a dimension's values are below its next one
pub slots_below : (values : DimensionState) (slots : List ℕ) (slot : ℕ) → IsDimension values → slots ≡ map (λ entry. entry.0) values.entries → is_among slots slot ≡ true → slot < values.next
slots_below values slots slot valid is among = each values.entries valid.slots_below (ap (λ (l : List ℕ). is_among l slot) (sym is) ∙ among)
  where
    each : (entries : List Entry) → All (λ entry. entry.0 < values.next) entries → is_among (map (λ entry. entry.0) entries) slot ≡ true → slot < values.next
    each [] all none = cc
    each (e ∷ entries) all among =
        elim (slot == e.0) as (λ b. (slot == e.0) ≡ b → (b || is_among (map (λ entry. entry.0) entries) slot) ≡ true → slot < values.next) [
          | true ↦ λ t _. let less = all 0 e (omega arith) in omega (arith, less, same_number slot e.0 t)
          | false ↦ λ _ rest. each entries (λ k d h. all (suc k) d (omega (arith, h))) rest
        ] refl among

pub AreBelow-tables : (values : DimensionState) (cells : Cells) (slots : List ℕ) (parents : List (Option ℕ)) → IsDimension values → slots ≡ map (λ entry. entry.0) values.entries → AreParents (λ slot. parent_of values (cell_at cells (slot ∷ []))) slots parents → length parents ≡ values.next →
    AreBelow slots parents (length parents)
AreBelow-tables values cells slots parents valid is are room = record {
  value = λ slot among. let less = slots_below values slots slot valid is among in omega (arith, less, room);
  parent = λ slot above e.
      let among = parent_is_value values (cell_at cells (slot ∷ [])) above (child_is_value (λ s. parent_of values (cell_at cells (s ∷ []))) slots parents slot above are e).1 in
      let less = slots_below values slots above valid is (ap (λ (l : List ℕ). is_among l above) is ∙ among) in omega (arith, less, room);
}

-- the tree of the tables is that of the relation
tree-tables : (values : DimensionState) (cells : Cells) (parents : List (Option ℕ)) (entries : List Entry) → ((slot : ℕ) → is_among (map (λ entry. entry.0) entries) slot ≡ true → parent_at parents slot ≡ parent_of values (cell_at cells (slot ∷ []))) →
    tree_by (map (λ entry. entry.0) entries) parents ≡ map (λ entry. (entry.0, parent_of values (cell_at cells (entry.0 ∷ [])))) entries
tree-tables values cells parents [] same = refl
tree-tables values cells parents (e ∷ entries) same =
    λ i. (e.0, same e.0 (or_left (e.0 == e.0) (is_among (map (λ entry. entry.0) entries) e.0) (number_itself e.0)) i) ∷ tree-tables values cells parents entries (λ slot among. same slot (or_right (slot == e.0) (is_among (map (λ entry. entry.0) entries) slot) among)) i

pub tree-is : (values : DimensionState) (cells : Cells) (slots : List ℕ) (parents : List (Option ℕ)) → slots ≡ map (λ entry. entry.0) values.entries → AreParents (λ slot. parent_of values (cell_at cells (slot ∷ []))) slots parents → tree_by slots parents ≡ tree_of values cells
tree-is values cells slots parents is are =
    ap (λ (l : List ℕ). tree_by l parents) is
    ∙ tree-tables values cells parents values.entries (λ slot among. are slot ∙ ap (λ b. cond b (parent_of values (cell_at cells (slot ∷ []))) None) (ap (λ (l : List ℕ). is_among l slot) is ∙ among))

length_map : (entries : List Entry) → length (map (λ (entry : Entry). entry.0) entries) ≡ length entries
length_map [] = refl
length_map (x ∷ xs) = ap suc (length_map xs)

get_map : (entries : List Entry) (i d : ℕ) → get_or (map (λ (entry : Entry). entry.0) entries) i d ≡ (get_or entries i (d, [])).0
get_map [] i d = refl
get_map (x ∷ xs) zero d = refl
get_map (x ∷ xs) (suc i) d = get_map xs i d

pairs : (entries : List Entry) → AllPairs (λ one other. one.0 ≢ other.0) entries → AllPairs (λ one other. one ≢ other) (map (λ entry. entry.0) entries)
pairs entries apart = λ i j d less within same. apart i j (d, []) less (omega (arith, within, length_map entries)) (sym (get_map entries i d) ∙ same ∙ get_map entries j d)

cleared_within : (marks : List Bool) (slot : ℕ) → is_cleared marks slot ≡ true → slot < length marks
cleared_within [] slot h = cc
cleared_within (b ∷ marks) zero h = omega arith
cleared_within (b ∷ marks) (suc slot) h = let rest = cleared_within marks slot h in omega (arith, rest)

module _ (values : DimensionState) (cells : Cells) (slots : List ℕ) (parents : List (Option ℕ)) (children : List (List ℕ)) (cleared : List Bool) (passed upward : List ℕ) (valid : IsDimension values) (is : slots ≡ map (λ entry. entry.0) values.entries)
    (are : AreParents (λ slot. parent_of values (cell_at cells (slot ∷ []))) slots parents) (clearing : IsClearing parents children cleared passed upward) (settled : (slot : ℕ) → is_among slots slot ≡ true → IsSettled parents cleared slot) where
  found : (slot : ℕ) → parent_at parents slot ≡ parent_in (tree_by slots parents) slot
  found slot = parent-by slots parents (λ s. parent_of values (cell_at cells (s ∷ []))) slot are

  values_of : (slot above : ℕ) → parent_at parents slot ≡ Some above → (is_among slots slot ≡ true) × (is_among slots above ≡ true)
  values_of slot above e =
      let c = child_is_value (λ s. parent_of values (cell_at cells (s ∷ []))) slots parents slot above are e in
      (c.0, ap (λ (l : List ℕ). is_among l above) is ∙ parent_is_value values (cell_at cells (slot ∷ [])) above c.1)

  tests : (x : ℕ) → is_among slots x ≡ true → is_above (tree_by slots parents) x x ≡ not (is_cleared cleared x)
  tests x among =
      elim (is_cleared cleared x) as (λ b. is_cleared cleared x ≡ b → is_above (tree_by slots parents) x x ≡ not b) [
        | true ↦ λ t. cleared_off slots parents children cleared passed upward clearing found x t
        | false ↦ λ t. left_on slots parents children cleared passed upward clearing found settled values_of x among t
      ] refl

  -- the first value that is left is the first on a loop
  pub first_is : (r : Option ℕ) → r ≡ find (λ slot. not (is_cleared cleared slot)) slots → first_loop (tree_of values cells) ≡ r
  first_is r e = ap first_loop (sym (tree-is values cells slots parents is are)) ∙ first_left slots slots parents cleared tests ∙ sym e

  all_cleared : (xs : List ℕ) → find (λ slot. not (is_cleared cleared slot)) xs ≡ None → (slot : ℕ) → is_among xs slot ≡ true → is_cleared cleared slot ≡ true
  all_cleared [] none slot among = cc
  all_cleared (x ∷ xs) none slot among =
      elim (is_cleared cleared x) as (λ b. is_cleared cleared x ≡ b → cond (not b) (Some x) (find (λ s. not (is_cleared cleared s)) xs) ≡ None → is_cleared cleared slot ≡ true) [
        | true ↦ λ t rest. elim (slot == x) as (λ b. (slot == x) ≡ b → (b || is_among xs slot) ≡ true → is_cleared cleared slot ≡ true) [
          | true ↦ λ s _. ap (is_cleared cleared) (same_number slot x s) ∙ t
          | false ↦ λ _ behind. all_cleared xs rest slot behind
        ] refl among
        | false ↦ λ _ some. cc
      ] refl none

  -- where none is left, the tables are a hierarchy
  pub held : (r : Option ℕ) → r ≡ find (λ slot. not (is_cleared cleared slot)) slots → r ≡ None → AreBelow slots parents (length parents) → AreChildren parents slots children → length children ≡ length parents → IsHeld slots parents children upward
  held r e none below kin size =
      let no = sym e ∙ none in
      record {
        hierarchy = record {
          apart = subst (λ (l : List ℕ). AllPairs (λ one other. one ≢ other) l) (sym is ∙ sym (slots-by slots parents)) (pairs values.entries valid.slots_differ);
          parents = λ slot parent p. ap (λ (l : List ℕ). is_among l parent) (slots-by slots parents) ∙ (values_of slot parent (found slot ∙ p)).1;
          no_loop = first_left slots slots parents cleared tests ∙ no;
        };
        found = found;
        kin = λ slot. kin slot ∙ children-by slots parents slot;
        all = λ slot among. clearing.listed slot (all_cleared slots no slot among);
        child = λ slot above p. (values_of slot above p).0;
        rising = clearing.rising;
        room = λ slot among. let within = cleared_within cleared slot (clearing.alone slot among) in omega (arith, within, clearing.room);
        below = below;
        size = size;
      }

-- the tables of a dimension and a relation
pub record AreMade (values : DimensionState) (cells : Cells) (slots : List ℕ) (parents : List (Option ℕ)) (children : List (List ℕ)) : Type 0 where
  pub valid : IsDimension values
  pub is : slots ≡ map (λ entry. entry.0) values.entries
  pub are : AreParents (λ slot. parent_of values (cell_at cells (slot ∷ []))) slots parents
  pub below : AreBelow slots parents (length parents)
  pub kin : AreChildren parents slots children
  pub size : length children ≡ length parents

pub room_of : (values : DimensionState) (slots given : List ℕ) (room slot : ℕ) → IsDimension values → slots ≡ map (λ entry. entry.0) values.entries → given ≡ slots → room ≡ values.next → is_among given slot ≡ true → slot < room
room_of values slots given room slot valid is same next among =
    let less = slots_below values slots slot valid is (ap (λ (l : List ℕ). is_among l slot) (sym same) ∙ among) in omega (arith, less, next)

are_of : (values : DimensionState) (cells : Cells) (slots given : List ℕ) (parents : List (Option ℕ)) → given ≡ slots → AreParents (λ slot. parent_of values (cell_at cells (slot ∷ []))) given parents → AreParents (λ slot. parent_of values (cell_at cells (slot ∷ []))) slots parents
are_of values cells slots given parents same are = subst (λ (l : List ℕ). AreParents (λ slot. parent_of values (cell_at cells (slot ∷ []))) l parents) same are

-- for children, slots and parents are given as slices
pub below_of : (values : DimensionState) (cells : Cells) (slots one two : List ℕ) (parents three : List (Option ℕ)) (room : ℕ) → IsDimension values → slots ≡ map (λ entry. entry.0) values.entries → one ≡ slots → two ≡ slots → three ≡ parents → room ≡ values.next →
    AreParents (λ slot. parent_of values (cell_at cells (slot ∷ []))) one parents → length parents ≡ room → AreBelow two three (length three)
below_of values cells slots one two parents three room valid is first second third next are size =
    subst (λ (l : List ℕ). AreBelow l three (length three)) (sym second)
    (subst (λ (p : List (Option ℕ)). AreBelow slots p (length p)) (sym third) (AreBelow-tables values cells slots parents valid is (are_of values cells slots one parents first are) (size ∙ next)))

pub made_of : (values : DimensionState) (cells : Cells) (slots one two : List ℕ) (parents three : List (Option ℕ)) (children : List (List ℕ)) (room : ℕ) → IsDimension values → slots ≡ map (λ entry. entry.0) values.entries → one ≡ slots → two ≡ slots → three ≡ parents → room ≡ values.next →
    AreParents (λ slot. parent_of values (cell_at cells (slot ∷ []))) one parents → length parents ≡ room → AreChildren three two children → length children ≡ length three → AreMade values cells slots parents children
made_of values cells slots one two parents three children room valid is first second third next are size kin count = record {
  valid = valid;
  is = is;
  are = are_of values cells slots one parents first are;
  below = AreBelow-tables values cells slots parents valid is (are_of values cells slots one parents first are) (size ∙ next);
  kin = subst (λ (l : List ℕ). AreChildren parents l children) second (subst (λ (p : List (Option ℕ)). AreChildren p two children) third kin);
  size = count ∙ ap (λ (p : List (Option ℕ)). length p) third;
}

pub kin_of : (values : DimensionState) (cells : Cells) (slots : List ℕ) (parents five : List (Option ℕ)) (children six : List (List ℕ)) → AreMade values cells slots parents children → five ≡ parents → six ≡ children → AreKin five six
kin_of values cells slots parents five children six made fifth sixth =
    subst (λ (p : List (Option ℕ)). AreKin p six) (sym fifth) (subst (λ (c : List (List ℕ)). AreKin parents c) (sym sixth) (AreKin-tables (λ slot. parent_of values (cell_at cells (slot ∷ []))) slots parents children made.are made.below made.kin made.size))

pub value_below : (values : DimensionState) (cells : Cells) (slots four : List ℕ) (parents five : List (Option ℕ)) (children : List (List ℕ)) (slot : ℕ) → AreMade values cells slots parents children → four ≡ slots → five ≡ parents → is_among four slot ≡ true → slot < length five
value_below values cells slots four parents five children slot made fourth fifth among =
    let less = made.below.value slot (ap (λ (l : List ℕ). is_among l slot) (sym fourth) ∙ among) in
    let long = ap (λ (p : List (Option ℕ)). length p) fifth in
    omega (arith, less, long)

pub mark_below : (values : DimensionState) (cells : Cells) (slots seven : List ℕ) (parents five : List (Option ℕ)) (children six : List (List ℕ)) (cleared eight : List Bool) (passed upward : List ℕ) (slot : ℕ) → AreMade values cells slots parents children → seven ≡ slots → five ≡ parents → eight ≡ cleared →
    IsClearing five six cleared passed upward → is_among seven slot ≡ true → slot < length eight
mark_below values cells slots seven parents five children six cleared eight passed upward slot made seventh fifth eighth clearing among =
    let less = value_below values cells slots seven parents five children slot made seventh fifth among in
    let long = ap (λ (l : List Bool). length l) eighth in
    omega (arith, less, long, clearing.room)

-- what was cleared, over the tables themselves
clearing_of : (parents five : List (Option ℕ)) (children six : List (List ℕ)) (cleared : List Bool) (passed upward : List ℕ) → five ≡ parents → six ≡ children → IsClearing five six cleared passed upward → IsClearing parents children cleared passed upward
clearing_of parents five children six cleared passed upward fifth sixth h = subst (λ (p : List (Option ℕ)). IsClearing p children cleared passed upward) fifth (subst (λ (c : List (List ℕ)). IsClearing five c cleared passed upward) sixth h)

settled_of : (slots four : List ℕ) (parents five : List (Option ℕ)) (cleared : List Bool) → four ≡ slots → five ≡ parents → ((slot : ℕ) → is_among four slot ≡ true → IsSettled five cleared slot) → (slot : ℕ) → is_among slots slot ≡ true → IsSettled parents cleared slot
settled_of slots four parents five cleared fourth fifth h slot among = subst (λ (p : List (Option ℕ)). IsSettled p cleared slot) fifth (h slot (ap (λ (l : List ℕ). is_among l slot) fourth ∙ among))

left_of : (slots seven : List ℕ) (cleared eight : List Bool) (r : Option ℕ) → seven ≡ slots → eight ≡ cleared → r ≡ find (λ slot. not (is_cleared eight slot)) seven → r ≡ find (λ slot. not (is_cleared cleared slot)) slots
left_of slots seven cleared eight r seventh eighth e = e ∙ ap (λ (l : List ℕ). find (λ slot. not (is_cleared eight slot)) l) seventh ∙ ap (λ (m : List Bool). find (λ slot. not (is_cleared m slot)) slots) eighth

pub first_of : (values : DimensionState) (cells : Cells) (slots four seven : List ℕ) (parents five : List (Option ℕ)) (children six : List (List ℕ)) (cleared eight : List Bool) (passed upward : List ℕ) (r : Option ℕ) → AreMade values cells slots parents children →
    four ≡ slots → five ≡ parents → six ≡ children → seven ≡ slots → eight ≡ cleared → IsClearing five six cleared passed upward → ((slot : ℕ) → is_among four slot ≡ true → IsSettled five cleared slot) → r ≡ find (λ slot. not (is_cleared eight slot)) seven →
    first_loop (tree_of values cells) ≡ r
first_of values cells slots four seven parents five children six cleared eight passed upward r made fourth fifth sixth seventh eighth clearing settled e =
    first_is values cells slots parents children cleared passed upward made.valid made.is made.are (clearing_of parents five children six cleared passed upward fifth sixth clearing) (settled_of slots four parents five cleared fourth fifth settled) r (left_of slots seven cleared eight r seventh eighth e)

pub held_of : (values : DimensionState) (cells : Cells) (slots four seven : List ℕ) (parents five : List (Option ℕ)) (children six : List (List ℕ)) (cleared eight : List Bool) (passed upward : List ℕ) (r : Option ℕ) → AreMade values cells slots parents children →
    four ≡ slots → five ≡ parents → six ≡ children → seven ≡ slots → eight ≡ cleared → IsClearing five six cleared passed upward → ((slot : ℕ) → is_among four slot ≡ true → IsSettled five cleared slot) → r ≡ find (λ slot. not (is_cleared eight slot)) seven → r ≡ None →
    IsHeld slots parents children upward
held_of values cells slots four seven parents five children six cleared eight passed upward r made fourth fifth sixth seventh eighth clearing settled e none =
    held values cells slots parents children cleared passed upward made.valid made.is made.are (clearing_of parents five children six cleared passed upward fifth sixth clearing) (settled_of slots four parents five cleared fourth fifth settled) r (left_of slots seven cleared eight r seventh eighth e) none made.below made.kin made.size
