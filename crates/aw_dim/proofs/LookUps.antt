-- Which value the look-ups find.
use Rattle.std.proofs.Common.{ℕ, zero, suc, Bool, true, false, cond, ◌≡◌, ◌≢◌, ◌+◌, ◌<◌, ◌==◌, List, [], ◌∷◌, length, slice_get, Some, None, option_map, is_some, find, bytes_eq, refl, sym, ◌∙◌, ap, arith, Option}
use Rattle.std.specs.List.{position_from}
use Rattle.std.proofs.lemmas.Slice.Eq.{bytes_eq-Decides}
use Rattle.std.proofs.lemmas.Bool.Decides.{Decides-eqb}
use Rattle.aw_dim.specs.DimensionState.{Entry, DimensionState, slot_of, name_of, position_of}
use Rattle.std.proofs.lemmas.Option.{slice_get_within}
use Rattle.aw_dim.specs.inside.Index.{Has, SlotsFit, ArePlaced, IsNameIndex, IsIndexed, indexed_place, name_by, place_at, same_place, indexed_name, listed_slot}
use Rattle.aw_dim.proofs.PlacesOfSlots.{fit_from_placed, name_of_placed}
use Rattle.aw_dim.proofs.Editing.{one_element}
use Rattle.aw_dim.proofs.NameIndexes.{one_slot, at_rank, splits_all, Splits, RanksBy}

-- no element passes
pub record NonePasses {X : Type 0} (test : X → Bool) (xs : List X) : Type 0 where
  pub fails : (k : ℕ) (x : X) → slice_get xs k ≡ Some x → test x ≡ false

-- the element at a place is the first that passes
pub record PassesFirst {X : Type 0} (test : X → Bool) (xs : List X) (place : ℕ) (first : X) : Type 0 where
  pub value : slice_get xs place ≡ Some first
  pub passes : test first ≡ true
  pub earlier : (k : ℕ) (x : X) → k < place → slice_get xs k ≡ Some x → test x ≡ false

module _ {X : Type 0} (test : X → Bool) where
  pub position_none : (xs : List X) (from : ℕ) → NonePasses test xs → position_from test from xs ≡ None
  position_none [] from none = refl
  position_none (x ∷ xs) from none = rw (none.fails zero x refl) (position_none xs (from + 1) (record { fails = λ k. none.fails (suc k) }))

  pub find_none : (xs : List X) → NonePasses test xs → find test xs ≡ None
  find_none [] none = refl
  find_none (x ∷ xs) none = rw (none.fails zero x refl) (find_none xs (record { fails = λ k. none.fails (suc k) }))

  pub position_first : (xs : List X) (from place : ℕ) (first : X) → PassesFirst test xs place first → position_from test from xs ≡ Some (place + from)
  position_first [] from place first found = absurd (let h = found.value in cc)
  position_first (x ∷ xs) from zero first found =
      let same : x ≡ first = let h = found.value in cc in
      rw (ap test same ∙ found.passes) (ap Some (omega arith))
  position_first (x ∷ xs) from (suc place) first found =
      rw (found.earlier zero x (omega arith) refl)
      (position_first xs (from + 1) place first (record { value = found.value; passes = found.passes; earlier = λ k y h. found.earlier (suc k) y (omega (arith, h)) }) ∙ ap Some (omega arith))

  pub find_first : (xs : List X) (place : ℕ) (first : X) → PassesFirst test xs place first → find test xs ≡ Some first
  find_first [] place first found = absurd (let h = found.value in cc)
  find_first (x ∷ xs) zero first found =
      let same : x ≡ first = let h = found.value in cc in
      rw (ap test same ∙ found.passes) (ap Some same)
  find_first (x ∷ xs) (suc place) first found =
      rw (found.earlier zero x (omega arith) refl)
      (find_first xs place first (record { value = found.value; passes = found.passes; earlier = λ k y h. found.earlier (suc k) y (omega (arith, h)) }))

pub test_false : (n slot : ℕ) → n ≢ slot → (n == slot) ≡ false
test_false n slot ne = by (n == slot) refl
  where
    by : (b : Bool) → (n == slot) ≡ b → b ≡ false
    by true e = absurd (ne ((Decides-eqb n slot).0 e))
    by false e = refl

bytes_false : (one other : List ℕ) → one ≢ other → bytes_eq one other ≡ false
bytes_false one other ne = by (bytes_eq one other) refl
  where
    by : (b : Bool) → bytes_eq one other ≡ b → b ≡ false
    by true e = absurd (ne ((bytes_eq-Decides one other).0 e))
    by false e = refl

module _ (values : DimensionState) (room : ℕ) (fit : SlotsFit values.entries room) (slot : ℕ) where
  at_slot : (place : ℕ) (name : List ℕ) → slice_get values.entries place ≡ Some (slot, name) → PassesFirst (λ (entry : Entry). entry.0 == slot) values.entries place (slot, name)
  at_slot place name value = record {
    value = value;
    passes = (Decides-eqb slot slot).1 refl;
    earlier = λ k entry less h. test_false entry.0 slot (λ e. let same : k ≡ place = fit.apart k place slot entry.1 name (rw (← e) h) value in omega (arith, same, less));
  }

  no_slot : ((place : ℕ) (name : List ℕ) → slice_get values.entries place ≡ Some (slot, name) → ⊥) → NonePasses (λ (entry : Entry). entry.0 == slot) values.entries
  no_slot none = record { fails = λ k entry h. test_false entry.0 slot (λ e. none k entry.1 (rw (← e) h)) }

  pub position_of-some : (place : ℕ) (name : List ℕ) → slice_get values.entries place ≡ Some (slot, name) → position_of values slot ≡ Some place
  position_of-some place name value = position_first (λ entry. entry.0 == slot) values.entries 0 place (slot, name) (at_slot place name value) ∙ ap Some (omega arith)

  pub name_of-some : (place : ℕ) (name : List ℕ) → slice_get values.entries place ≡ Some (slot, name) → name_of values slot ≡ Some name
  name_of-some place name value = ap (option_map (λ (entry : Entry). entry.1)) (find_first (λ entry. entry.0 == slot) values.entries place (slot, name) (at_slot place name value))

  pub position_of-none : ((place : ℕ) (name : List ℕ) → slice_get values.entries place ≡ Some (slot, name) → ⊥) → position_of values slot ≡ None
  position_of-none none = position_none (λ entry. entry.0 == slot) values.entries 0 (no_slot none)

  pub name_of-none : ((place : ℕ) (name : List ℕ) → slice_get values.entries place ≡ Some (slot, name) → ⊥) → name_of values slot ≡ None
  name_of-none none = ap (option_map (λ (entry : Entry). entry.1)) (find_none (λ entry. entry.0 == slot) values.entries (no_slot none))

-- what stands at the place that was found is what is found
record Found {X : Type 0} (test : X → Bool) (xs : List X) (from place : ℕ) : Type 0 where
  at : ℕ
  first : X
  counted : place ≡ at + from
  value : slice_get xs at ≡ Some first
  is : find test xs ≡ Some first

position_found : {X : Type 0} (test : X → Bool) (xs : List X) (from place : ℕ) → position_from test from xs ≡ Some place → Found test xs from place
position_found test [] from place e = absurd cc
position_found test (x ∷ xs) from place e = by (test x) refl (position_found test xs (from + 1) place) e
  where
    by : (b : Bool) → test x ≡ b → (position_from test (from + 1) xs ≡ Some place → Found test xs (from + 1) place) → cond b (Some from) (position_from test (from + 1) xs) ≡ Some place → Found test (x ∷ xs) from place
    by true same more h = let here : from ≡ place = cc in record { at = zero; first = x; counted = omega (arith, here); value = refl; is = rw same refl }
    by false same more h =
        let rest = more h in
        record { at = suc rest.at; first = rest.first; counted = omega (arith, rest.counted); value = rest.value; is = rw same rest.is }

position_lost : {X : Type 0} (test : X → Bool) (xs : List X) (from : ℕ) → position_from test from xs ≡ None → find test xs ≡ None
position_lost test [] from e = refl
position_lost test (x ∷ xs) from e = by (test x) refl (position_lost test xs (from + 1)) e
  where
    by : (b : Bool) → test x ≡ b → (position_from test (from + 1) xs ≡ None → find test xs ≡ None) → cond b (Some from) (position_from test (from + 1) xs) ≡ None → find test (x ∷ xs) ≡ None
    by true same more h = absurd cc
    by false same more h = rw same (more h)

pub name-lost : (values : DimensionState) (slot : ℕ) → position_of values slot ≡ None → name_of values slot ≡ None
name-lost values slot e = ap (option_map (λ (entry : Entry). entry.1)) (position_lost (λ entry. entry.0 == slot) values.entries 0 e)

find_passes : (test : Entry → Bool) (xs : List Entry) (first : Entry) → find test xs ≡ Some first → test first ≡ true
find_passes test [] first h = absurd cc
find_passes test (x ∷ xs) first h = by (test x) refl (find_passes test xs first) h
  where
    by : (b : Bool) → test x ≡ b → (find test xs ≡ Some first → test first ≡ true) → cond b (Some x) (find test xs) ≡ Some first → test first ≡ true
    by true same more g = let is : x ≡ first = cc in rw (← is) same
    by false same more g = more g

-- the value with a slot stands at its position
pub record StandsAt (values : DimensionState) (slot place : ℕ) : Type 0 where
  pub name : List ℕ
  pub value : slice_get values.entries place ≡ Some (slot, name)
  pub named : name_of values slot ≡ Some name

pub stands-at : (values : DimensionState) (slot place : ℕ) → position_of values slot ≡ Some place → StandsAt values slot place
stands-at values slot place e =
    let found = position_found (λ entry. entry.0 == slot) values.entries 0 place e in
    let here : found.at ≡ place = omega (arith, found.counted) in
    let passes = find_passes (λ entry. entry.0 == slot) values.entries found.first found.is in
    let same : found.first ≡ (slot, found.first.1) = λ i. ((Decides-eqb found.first.0 slot).0 passes i, found.first.1) in
    record { name = found.first.1; value = rw here at (found.value ∙ ap Some same); named = ap (option_map (λ (entry : Entry). entry.1)) found.is }

pub name-position : (values : DimensionState) (slot : ℕ) → name_by values.entries (position_of values slot) ≡ name_of values slot
name-position values slot = by (position_of values slot) refl
  where
    by : (place : Option ℕ) → position_of values slot ≡ place → name_by values.entries place ≡ name_of values slot
    by None none = sym (name-lost values slot none)
    by (Some place) found = let stands = stands-at values slot place found in ap (option_map (λ (entry : Entry). entry.1)) stands.value ∙ sym stands.named

pub is_some-position : (values : DimensionState) (slot : ℕ) → is_some (position_of values slot) ≡ is_some (name_of values slot)
is_some-position values slot = by (position_of values slot) refl
  where
    by : (place : Option ℕ) → position_of values slot ≡ place → is_some place ≡ is_some (name_of values slot)
    by None none = ap is_some (sym (name-lost values slot none))
    by (Some place) found = ap is_some (sym (stands-at values slot place found).named)

-- the place that the index gives
pub position-indexed : (values : DimensionState) (places : List ℕ) → ArePlaced values.entries places (length values.entries) → (slot : ℕ) → indexed_place values.entries places slot ≡ position_of values slot
position-indexed values places placed slot = by_place (slice_get places slot) refl
  where
    fit : SlotsFit values.entries (length places)
    fit = fit_from_placed values.entries places placed

    standing : (place : ℕ) (name : List ℕ) → slice_get values.entries place ≡ Some (slot, name) → slice_get places slot ≡ Some place
    standing place name value = placed.at place slot name (slice_get_within values.entries place (slot, name) value) value

    by_slot : (place : ℕ) (entry : Entry) → slice_get places slot ≡ Some place → slice_get values.entries place ≡ Some entry → (same : Bool) → (entry.0 == slot) ≡ same → cond same (Some place) None ≡ position_of values slot
    by_slot place entry at_slot value true same = sym (position_of-some values (length places) fit slot place entry.1 (rw (← (Decides-eqb entry.0 slot).0 same) value))
    by_slot place entry at_slot value false same =
        sym (position_of-none values (length places) fit slot (λ other name is.
        let e : Some other ≡ Some place = sym (standing other name is) ∙ at_slot in
        let here : other ≡ place = cc in
        let one : (slot, name) ≡ entry = one_element values.entries place (slot, name) entry (rw here at is) value in
        let yes = (Decides-eqb entry.0 slot).1 (sym (ap (λ (x : Entry). x.0) one)) in
        let no : true ≡ false = sym yes ∙ same in
        cc))

    by_entry : (place : ℕ) → slice_get places slot ≡ Some place → (entry : Option Entry) → slice_get values.entries place ≡ entry → same_place slot place entry ≡ position_of values slot
    by_entry place at_slot None none = sym (position_of-none values (length places) fit slot (λ other name is.
        let e : Some other ≡ Some place = sym (standing other name is) ∙ at_slot in
        let here : other ≡ place = cc in
        let no : Some (slot, name) ≡ None = sym (rw here at is) ∙ none in
        cc))
    by_entry place at_slot (Some entry) value = by_slot place entry at_slot value (entry.0 == slot) refl

    by_place : (place : Option ℕ) → slice_get places slot ≡ place → place_at values.entries slot place ≡ position_of values slot
    by_place None none = sym (position_of-none values (length places) fit slot (λ other name is.
        let no : Some other ≡ None = sym (standing other name is) ∙ none in
        cc))
    by_place (Some place) at_slot = by_entry place at_slot (slice_get values.entries place) refl

module _ (values : DimensionState) (room : ℕ) (fit : SlotsFit values.entries room) (slots : List ℕ) (index : IsNameIndex (Has values.entries) slots) (name : List ℕ) where
  pub slot_of-some : (slot : ℕ) → Has values.entries slot name → slot_of values name ≡ Some slot
  slot_of-some slot has = ap (option_map (λ (entry : Entry). entry.0)) (find_first (λ entry. bytes_eq entry.1 name) values.entries has.place (slot, name) (record {
    value = has.value;
    passes = (bytes_eq-Decides name name).1 refl;
    earlier = λ k entry less h. bytes_false entry.1 name (λ e.
        let is : slice_get values.entries k ≡ Some (entry.0, name) = rw (← e) h in
        let same : entry.0 ≡ slot = one_slot (Has values.entries) slots index entry.0 slot name (record { place = k; value = is }) has in
        let place : k ≡ has.place = fit.apart k has.place slot name name (rw (← same) is) has.value in
        omega (arith, place, less));
  }))

  pub slot_of-none : ((slot : ℕ) → Has values.entries slot name → ⊥) → slot_of values name ≡ None
  slot_of-none none = ap (option_map (λ (entry : Entry). entry.0)) (find_none (λ entry. bytes_eq entry.1 name) values.entries (record {
    fails = λ k entry h. bytes_false entry.1 name (λ e. none entry.0 (record { place = k; value = rw (← e) h }));
  }))

-- the slot that the index gives at a name's rank
pub slot-listed : (values : DimensionState) (places slots : List ℕ) → ArePlaced values.entries places (length values.entries) → IsNameIndex (Has values.entries) slots → (name : List ℕ) (rank : ℕ) → RanksBy values.entries places slots name rank → listed_slot values.entries places name (slice_get slots rank) ≡ slot_of values name
slot-listed values places slots placed index name rank ranks = by_slot (slice_get slots rank) refl
  where
    fit : SlotsFit values.entries (length places)
    fit = fit_from_placed values.entries places placed

    split : Splits (Has values.entries) slots name rank
    split = splits_all values.entries places placed slots index name rank ranks

    by_name : (slot : ℕ) → slice_get slots rank ≡ Some slot → (same : Bool) → bytes_eq (indexed_name values.entries places slot) name ≡ same → cond same (Some slot) None ≡ slot_of values name
    by_name slot at_slot true same =
        let known = index.named rank slot at_slot in
        let is : known.0 ≡ name = sym (name_of_placed values.entries places slot known.0 placed known.1) ∙ (bytes_eq-Decides (indexed_name values.entries places slot) name).0 same in
        sym (slot_of-some values (length places) fit slots index name slot (rw is at known.1))
    by_name slot at_slot false same =
        sym (slot_of-none values (length places) fit slots index name (λ other has.
        let e : Some slot ≡ Some other = sym at_slot ∙ at_rank (Has values.entries) slots index name rank split other has in
        let one : slot ≡ other = cc in
        let is : indexed_name values.entries places slot ≡ name = name_of_placed values.entries places slot name placed (rw one has) in
        let no : true ≡ false = sym ((bytes_eq-Decides (indexed_name values.entries places slot) name).1 is) ∙ same in
        cc))

    by_slot : (slot : Option ℕ) → slice_get slots rank ≡ slot → listed_slot values.entries places name slot ≡ slot_of values name
    by_slot None none = sym (slot_of-none values (length places) fit slots index name (λ other has.
        let no : Some other ≡ None = sym (at_rank (Has values.entries) slots index name rank split other has) ∙ none in
        cc))
    by_slot (Some slot) at_slot = by_name slot at_slot (bytes_eq (indexed_name values.entries places slot) name) refl

-- a name that isn't found is no value's
pub name-unused : (values : DimensionState) (places slots : List ℕ) → IsIndexed values.entries places slots → (name : List ℕ) → slot_of values name ≡ None → (slot : ℕ) → Has values.entries slot name → ⊥
name-unused values places slots stands name none slot has =
    let e : None ≡ Some slot = sym none ∙ slot_of-some values (length places) (fit_from_placed values.entries places stands.placed) slots stands.indexed name slot has in
    cc
