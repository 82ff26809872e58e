-- The parts of a dimension make the value of one.
use Rattle.std.proofs.Common.{ℕ, zero, suc, Bool, true, false, ◌||◌, [], ◌∷◌, option_map, ◌≡◌, ◌≢◌, ◌<◌, ◌≤◌, List, length, slice_get, slice_index_or, Some, All, AllPairs, map, eqb, refl, sym, ◌∙◌, ap, arith}
use Rattle.std.specs.List.{list_any}
use Rattle.std.proofs.lemmas.List.{length-map}
use Rattle.std.proofs.lemmas.Option.{slice_get-get_or, slice_get-map, slice_get_within, get_or_from_slice_get}
use Rattle.std.proofs.lemmas.Map.Made.{IsDistinct-from_AllPairs}
use Rattle.std.proofs.lemmas.Map.Steps.{length-le_from_distinct_below}
use Rattle.std.proofs.lemmas.Bool.Decides.{Decides-eqb}
use Rattle.aw_dim.specs.DimensionState.{Entry, DimensionState, IsDimension, IsValueName}
use Rattle.aw_dim.specs.inside.Index.{Has, SlotsFit, ArePlaced, IsNameIndex, IsIndexed}
use Rattle.aw_dim.proofs.NameIndexes.{one_slot}
use Rattle.aw_dim.proofs.PlacesOfSlots.{fit_from_placed}

with_slot : (entries : List Entry) (slot : ℕ) → list_any (eqb slot) (map (λ entry. entry.0) entries) ≡ true → (place : ℕ) × (name : List ℕ) × (slice_get entries place ≡ Some (slot, name))
with_slot [] slot h = absurd cc
with_slot (entry ∷ entries) slot h = by (eqb slot entry.0) refl (with_slot entries slot) h
  where
    by : (b : Bool) → eqb slot entry.0 ≡ b → (list_any (eqb slot) (map (λ entry. entry.0) entries) ≡ true → (place : ℕ) × (name : List ℕ) × (slice_get entries place ≡ Some (slot, name))) → (b || list_any (eqb slot) (map (λ entry. entry.0) entries)) ≡ true → (place : ℕ) × (name : List ℕ) × (slice_get (entry ∷ entries) place ≡ Some (slot, name))
    by true same more g =
        let is = (Decides-eqb slot entry.0).0 same in
        let value : entry ≡ (slot, entry.1) = λ i. (sym is i, entry.1) in
        (zero, entry.1, ap Some value)
    by false same more g = let rest = more g in (suc rest.0, rest.1, rest.2)

slot_at : (entries : List Entry) (k d : ℕ) → k < length entries → slice_index_or (map (λ (entry : Entry). entry.0) entries) k d ≡ (slice_index_or entries k (0, [])).0
slot_at entries k d h =
    get_or_from_slice_get (map (λ (entry : Entry). entry.0) entries) k (slice_index_or entries k (0, [])).0 d
    (slice_get-map (λ (entry : Entry). entry.0) entries k ∙ ap (option_map (λ (entry : Entry). entry.0)) (slice_get-get_or entries k (0, []) h))

-- the slots are distinct numbers
pub slots_distinct : (entries : List Entry) (room : ℕ) → SlotsFit entries room → AllPairs (λ one other. one ≢ other) (map (λ (entry : Entry). entry.0) entries)
slots_distinct entries room fit i j d less h e =
    let within : j < length entries = simp length-map at h in
    let below : i < length entries = omega (arith, less, within) in
    let same : (slice_index_or entries i (0, [])).0 ≡ (slice_index_or entries j (0, [])).0 = sym (slot_at entries i d below) ∙ e ∙ slot_at entries j d within in
    let is = fit.apart i j (slice_index_or entries j (0, [])).0 (slice_index_or entries i (0, [])).1 (slice_index_or entries j (0, [])).1 (rw (← same) (slice_get-get_or entries i (0, []) below)) (slice_get-get_or entries j (0, []) within) in
    omega (arith, is, less)

-- there are no more values than slots
pub few : (entries : List Entry) (room : ℕ) → SlotsFit entries room → length entries ≤ room
few entries room fit =
    rw (← length-map entries (λ (entry : Entry). entry.0))
    (length-le_from_distinct_below (map (λ (entry : Entry). entry.0) entries) room (IsDistinct-from_AllPairs Decides-eqb (map (λ (entry : Entry). entry.0) entries) (slots_distinct entries room fit)) (λ q h. let found = with_slot entries q h in fit.below found.0 q found.1 found.2))

pub valid : (entries : List Entry) (places by_name : List ℕ) → IsIndexed entries places by_name → IsDimension (record { entries = entries; next = length places })
valid entries places by_name stands =
    let fit = fit_from_placed entries places stands.placed in
    record {
      slots_differ = λ i j d less h e.
          let at_i = slice_get-get_or entries i d (omega (arith, less, h)) in
          let at_j = slice_get-get_or entries j d h in
          let same : i ≡ j = fit.apart i j (slice_index_or entries j d).0 (slice_index_or entries i d).1 (slice_index_or entries j d).1 (rw (← e) at_i) at_j in
          omega (arith, same, less);
      names_differ = λ i j d less h e.
          let at_i = slice_get-get_or entries i d (omega (arith, less, h)) in
          let at_j = slice_get-get_or entries j d h in
          let slot : (slice_index_or entries i d).0 ≡ (slice_index_or entries j d).0 = one_slot (Has entries) by_name stands.indexed (slice_index_or entries i d).0 (slice_index_or entries j d).0 (slice_index_or entries j d).1 (record { place = i; value = rw (← e) at_i }) (record { place = j; value = at_j }) in
          let same : i ≡ j = fit.apart i j (slice_index_or entries j d).0 (slice_index_or entries i d).1 (slice_index_or entries j d).1 (rw (← slot) at_i) at_j in
          omega (arith, same, less);
      slots_below = λ k d h. fit.below k (slice_index_or entries k d).0 (slice_index_or entries k d).1 (slice_get-get_or entries k d h);
      names_are_texts = λ k d h. stands.texts (slice_index_or entries k d).0 (slice_index_or entries k d).1 (record { place = k; value = slice_get-get_or entries k d h });
      next_most = stands.most;
    }

-- so they are at most 65,536
pub most : (entries : List Entry) (places by_name : List ℕ) → IsIndexed entries places by_name → length entries ≤ 65536
most entries places by_name stands = let fewer = few entries (length places) (fit_from_placed entries places stands.placed) in omega (arith, fewer, stands.most)
