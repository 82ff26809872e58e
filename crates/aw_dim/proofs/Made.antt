-- The index that is made from the values of a dimension.
use Rattle.std.proofs.Common.{ℕ, zero, suc, Bool, true, false, ◌≡◌, ◌≢◌, ◌+◌, ◌<◌, ◌≤◌, List, length, map, option_map, slice_get, slice_index, slice_index_or, Some, All, Contains, IsPermutation, IsSortedBy, eqb, refl, sym, ◌∙◌, ap, arith, inl, inr, add-one}
use Rattle.std.specs.List.{IsDistinct}
use Rattle.std.proofs.lemmas.Bool.{cases_lt, cases_order}
use Rattle.std.proofs.lemmas.Bool.Decides.{Decides-eqb}
use Rattle.std.proofs.lemmas.List.{length-map}
use Rattle.std.proofs.lemmas.List.Sorted.{IsPermutation-sym, Contains-permutation}
use Rattle.std.proofs.lemmas.Map.Keys.{IsDistinct-IsPermutation}
use Rattle.std.proofs.lemmas.Map.Made.{IsDistinct-from_AllPairs, AllPairs-from_IsDistinct}
use Rattle.std.proofs.lemmas.Option.{slice_get_within, slice_get-get_or, slice_get-map, get_or_from_slice_get}
use Rattle.std.specs.Cmp.{nat_eq_equiv}
use Rattle.aw_dim.specs.DimensionState.{Entry, DimensionState, IsDimension, IsValueName}
use Rattle.aw_dim.specs.inside.Index.{Has, AreBelow, SlotsFit, ArePlaced, IsNameIndex, IsIndexed, indexed_name, precedes}
use Rattle.aw_dim.specs.inside.Making.{AreListed, RiseBy}
use Rattle.aw_dim.proofs.NameOrder.{precedes-trans, precedes-total}
use Rattle.aw_dim.proofs.PlacesOfSlots.{name_of_placed}
use Rattle.aw_dim.proofs.Valid.{few, slots_distinct}

entry_at : (entries : List Entry) (k : ℕ) (entry d : Entry) → slice_get entries k ≡ Some entry → slice_index_or entries k d ≡ entry
entry_at entries k entry d h = get_or_from_slice_get entries k entry d h

-- the slots of a dimension's value fit
pub fit_from_valid : (values : DimensionState) → IsDimension values → SlotsFit values.entries values.next
fit_from_valid values is = record {
  apart = λ one other slot name renamed h g.
      elim (cases_order one other) [
        | inl e ↦ e
        | inr unequal ↦ elim unequal [
          | inl less ↦ absurd (is.slots_differ one other (slot, name) less (slice_get_within values.entries other (slot, renamed) g) (ap (λ (entry : Entry). entry.0) (entry_at values.entries one (slot, name) (slot, name) h) ∙ sym (ap (λ (entry : Entry). entry.0) (entry_at values.entries other (slot, renamed) (slot, name) g))))
          | inr more ↦ absurd (is.slots_differ other one (slot, name) more (slice_get_within values.entries one (slot, name) h) (ap (λ (entry : Entry). entry.0) (entry_at values.entries other (slot, renamed) (slot, name) g) ∙ sym (ap (λ (entry : Entry). entry.0) (entry_at values.entries one (slot, name) (slot, name) h))))
        ]
      ];
  below = λ place slot name h.
      let low = is.slots_below place (slot, name) (slice_get_within values.entries place (slot, name) h) in
      let same = ap (λ (entry : Entry). entry.0) (entry_at values.entries place (slot, name) (slot, name) h) in
      omega (arith, low, same);
}

-- and so do not its names stand twice
pub one_place : (values : DimensionState) → IsDimension values → (one other slot held : ℕ) (name : List ℕ) → slice_get values.entries one ≡ Some (slot, name) → slice_get values.entries other ≡ Some (held, name) → one ≡ other
one_place values is one other slot held name h g =
    elim (cases_order one other) [
      | inl e ↦ e
      | inr unequal ↦ elim unequal [
        | inl less ↦ absurd (is.names_differ one other (slot, name) less (slice_get_within values.entries other (held, name) g) (ap (λ (entry : Entry). entry.1) (entry_at values.entries one (slot, name) (slot, name) h) ∙ sym (ap (λ (entry : Entry). entry.1) (entry_at values.entries other (held, name) (slot, name) g))))
        | inr more ↦ absurd (is.names_differ other one (slot, name) more (slice_get_within values.entries one (slot, name) h) (ap (λ (entry : Entry). entry.1) (entry_at values.entries other (held, name) (slot, name) g) ∙ sym (ap (λ (entry : Entry). entry.1) (entry_at values.entries one (slot, name) (slot, name) h))))
      ]
    ]

pub few_valid : (values : DimensionState) → IsDimension values → length values.entries ≤ values.next
few_valid values is = few values.entries values.next (fit_from_valid values is)

pub below_from_all : (entries : List Entry) (room : ℕ) → All (λ entry. entry.0 < room) entries → AreBelow entries room
below_from_all entries room all = record {
  below = λ place slot name h.
      let low = all place (slot, name) (slice_get_within entries place (slot, name) h) in
      let same = ap (λ (entry : Entry). entry.0) (entry_at entries place (slot, name) (slot, name) h) in
      omega (arith, low, same);
}

pub texts_from_all : (entries : List Entry) → All (λ entry. IsValueName entry.1) entries → (slot : ℕ) (name : List ℕ) → Has entries slot name → IsValueName name
texts_from_all entries all slot name has =
    let text = all has.place (slot, name) (slice_get_within entries has.place (slot, name) has.value) in
    let same : (slice_index_or entries has.place (slot, name)).1 ≡ name = ap (λ (entry : Entry). entry.1) (entry_at entries has.place (slot, name) (slot, name) has.value) in
    rw same at text

pub none_placed : (entries : List Entry) (places : List ℕ) → ArePlaced entries places 0
none_placed entries places = record { at = λ place slot name h g. absurd (omega (arith, h)) }

module _ (entries : List Entry) (places slots : List ℕ) (placed : ArePlaced entries places (length entries)) (same : IsPermutation (map (λ (entry : Entry). entry.0) entries) slots) where
  -- a listed slot has a name
  has_name : (i slot : ℕ) → slice_get slots i ≡ Some slot → (name : List ℕ) × Has entries slot name
  has_name i slot h =
      let listed : Contains slots slot = (i, slice_get_within slots i slot h, get_or_from_slice_get slots i slot slot h) in
      let held = Contains-permutation slots (map (λ (entry : Entry). entry.0) entries) slot (IsPermutation-sym (map (λ (entry : Entry). entry.0) entries) slots same) listed in
      let within : held.0 < length entries = simp length-map at held.1 in
      let is : slice_get (map (λ (entry : Entry). entry.0) entries) held.0 ≡ Some slot = slice_get-get_or (map (λ (entry : Entry). entry.0) entries) held.0 slot held.1 ∙ ap Some held.2 in
      let entry = slice_get-get_or entries held.0 (slot, slots) within in
      let slot_is : (slice_index_or entries held.0 (slot, slots)).0 ≡ slot = (let e : Some (slice_index_or entries held.0 (slot, slots)).0 ≡ Some slot = sym (slice_get-map (λ (entry : Entry). entry.0) entries held.0 ∙ ap (option_map (λ (entry : Entry). entry.0)) entry) ∙ is in cc) in
      let value : (slice_index_or entries held.0 (slot, slots)) ≡ (slot, (slice_index_or entries held.0 (slot, slots)).1) = λ i. (slot_is i, (slice_index_or entries held.0 (slot, slots)).1) in
      ((slice_index_or entries held.0 (slot, slots)).1, record { place = held.0; value = entry ∙ ap Some value })

  -- a slot with a name is listed
  listed_slot : (slot : ℕ) (name : List ℕ) → Has entries slot name → (i : ℕ) × (slice_get slots i ≡ Some slot)
  listed_slot slot name has =
      let at : slice_get (map (λ (entry : Entry). entry.0) entries) has.place ≡ Some slot = slice_get-map (λ (entry : Entry). entry.0) entries has.place ∙ ap (option_map (λ (entry : Entry). entry.0)) has.value in
      let held : Contains (map (λ (entry : Entry). entry.0) entries) slot = (has.place, slice_get_within (map (λ (entry : Entry). entry.0) entries) has.place slot at, get_or_from_slice_get (map (λ (entry : Entry). entry.0) entries) has.place slot slot at) in
      let listed = Contains-permutation (map (λ (entry : Entry). entry.0) entries) slots slot same held in
      (listed.0, slice_get-get_or slots listed.0 slot listed.1 ∙ ap Some listed.2)

  module _ (rise : RiseBy (indexed_name entries places) slots) where
    far : (i j : ℕ) → i < j → j < length slots → precedes (indexed_name entries places (slice_index slots i)) (indexed_name entries places (slice_index slots j)) ≡ true
    far i zero less h = absurd (omega (arith, less))
    far i (suc j) less h =
        let near : precedes (indexed_name entries places (slice_index slots j)) (indexed_name entries places (slice_index slots (suc j))) ≡ true = (let bound : j + 1 < length slots = omega (arith, h) in rw add-one at (rise.next j bound)) in
        elim (cases_lt i j) [
          | inl before ↦ precedes-trans (indexed_name entries places (slice_index slots i)) (indexed_name entries places (slice_index slots j)) (indexed_name entries places (slice_index slots (suc j))) (far i j before (omega (arith, h))) near
          | inr not ↦ (let e : i ≡ j = omega (arith, less, not) in rw e near)
        ]

    pub name_index : IsNameIndex (Has entries) slots
    name_index = record {
      rise = λ i j one other name later less h g p q.
          let steps = far i j less (slice_get_within slots j other g) in
          let first : slice_index slots i ≡ one = get_or_from_slice_get slots i one 0 h in
          let second : slice_index slots j ≡ other = get_or_from_slice_get slots j other 0 g in
          let first_name : indexed_name entries places (slice_index slots i) ≡ name = ap (indexed_name entries places) first ∙ name_of_placed entries places one name placed p in
          let second_name : indexed_name entries places (slice_index slots j) ≡ later = ap (indexed_name entries places) second ∙ name_of_placed entries places other later placed q in
          rw (← first_name, ← second_name) steps;
      named = has_name;
      all = listed_slot;
    }

  -- sorted names of a dimension's value rise
  pub rises : (next : ℕ) → IsDimension (record { entries = entries; next = next }) → IsSortedBy (λ one other. precedes (indexed_name entries places one) (indexed_name entries places other)) slots → RiseBy (indexed_name entries places) slots
  rises next is sorted = record {
    next = λ at h.
        let at_one = slice_get-get_or slots at 0 (omega (arith, h)) in
        let at_other = slice_get-get_or slots (at + 1) 0 h in
        let one = has_name at (slice_index slots at) at_one in
        let other = has_name (at + 1) (slice_index slots (at + 1)) at_other in
        let no = sorted at 0 (omega arith) h in
        let apart : slice_index slots at ≢ slice_index slots (at + 1) = AllPairs-from_IsDistinct Decides-eqb slots distinct at (at + 1) 0 (omega arith) h in
        let first = name_of_placed entries places (slice_index slots at) one.0 placed one.1 in
        let second = name_of_placed entries places (slice_index slots (at + 1)) other.0 placed other.1 in
        precedes-total (indexed_name entries places (slice_index slots (at + 1))) (indexed_name entries places (slice_index slots at)) no
        (λ e. apart (same_slot (slice_index slots at) (slice_index slots (at + 1)) one.0 other.0 one.1 other.1 (sym first ∙ sym e ∙ second)));
  }
    where
      distinct : IsDistinct eqb slots
      distinct =
          IsDistinct-IsPermutation eqb (λ x y. nat_eq_equiv.symm x y) (map (λ (entry : Entry). entry.0) entries) slots same
          (IsDistinct-from_AllPairs Decides-eqb (map (λ (entry : Entry). entry.0) entries) (slots_distinct entries next (fit_from_valid (record { entries = entries; next = next }) is)))

      same_slot : (one other : ℕ) (name later : List ℕ) → Has entries one name → Has entries other later → name ≡ later → one ≡ other
      same_slot one other name later p q e =
          let place : p.place ≡ q.place = one_place (record { entries = entries; next = next }) is p.place q.place one other later (rw e at p.value) q.value in
          let entry : Some (one, name) ≡ Some (other, later) = sym p.value ∙ rw place q.value in
          let same : (one, name) ≡ (other, later) = cc in
          ap (λ (entry : Entry). entry.0) same

-- the value of a dimension is listed
pub listed : (entries : List Entry) (next : ℕ) → IsDimension (record { entries = entries; next = next }) → AreListed entries next
listed entries next is = record { named = is.names_are_texts; below = is.slots_below; few = few_valid (record { entries = entries; next = next }) is; most = is.next_most }
