-- A dimension's parts belong together after each change.
use Rattle.std.proofs.Common.{ℕ, zero, suc, ◌≡◌, ◌≢◌, ◌+◌, ◌<◌, ◌≤◌, ◌⊎◌, List, [], ◌∷◌, ◌++◌, length, slice_get, slice_set, Some, insert, remove, refl, sym, ◌∙◌, ap, arith, inl, inr}
use Rattle.std.proofs.lemmas.Bool.{cases_order}
use Rattle.std.proofs.lemmas.Option.{slice_get_within}
use Rattle.aw_dim.specs.DimensionState.{Entry, IsValueName}
use Rattle.aw_dim.specs.inside.Index.{Has, HasBut, IsAt, AreBelow, SlotsFit, ArePlaced, IsNameIndex, IsIndexed}
use Rattle.aw_dim.proofs.Editing.{insert_below, insert_at, remove_below, set_at, set_other, one_element, shifted, drawn, kept, left_in}
use Rattle.aw_dim.proofs.NameIndexes.{index_same, one_slot}
use Rattle.aw_dim.proofs.PlacesOfSlots.{fit_from_placed, fit-insert, placed-insert, has_but-insert, has-has_but-insert, has-insert, fit-remove, gone, placed-remove, has-remove, has_but-remove, has_from_remove}

pub below_from_fit : (entries : List Entry) (room : ℕ) → SlotsFit entries room → AreBelow entries room
below_from_fit entries room fit = record { below = fit.below }

module _ (entries : List Entry) (places by_name : List ℕ) (stands : IsIndexed entries places by_name) where
  pub fit : SlotsFit entries (length places)
  fit = fit_from_placed entries places stands.placed

  module _ (at : ℕ) (name : List ℕ) (within : at ≤ length entries) (unused : (slot : ℕ) → Has entries slot name → ⊥) where
    fresh : (k : ℕ) (other : List ℕ) → slice_get entries k ≡ Some (length places, other) → ⊥
    fresh k other h = let low = fit.below k (length places) other h in omega (arith, low)

    pub put-fit : (more : ℕ) → length places < more → SlotsFit (insert entries at (length places, name)) more
    put-fit more wide = fit-insert entries at (length places) name within (length places) fit fresh more wide (omega (arith, wide))

    pub put-before : (more : List ℕ) → ArePlaced (insert entries at (length places, name)) (places ++ more) at
    put-before more = placed-insert entries at (length places) name within places more stands.placed

    pub put-listed : IsNameIndex (HasBut (insert entries at (length places, name)) (length places)) by_name
    put-listed =
        index_same (Has entries) (HasBut (insert entries at (length places, name)) (length places)) by_name
        (has_but-insert entries at (length places) name within fresh) (has-has_but-insert entries at (length places) name within) stands.indexed

    pub put-has : Has (insert entries at (length places, name)) (length places) name
    put-has = has-insert entries at (length places) name within

    pub put-unused : (slot : ℕ) → HasBut (insert entries at (length places, name)) (length places) slot name → ⊥
    put-unused slot has = unused slot (has-has_but-insert entries at (length places) name within slot name has)

    pub put-texts : IsValueName name → (slot : ℕ) (known : List ℕ) → Has (insert entries at (length places, name)) slot known → IsValueName known
    put-texts is slot known has =
        elim (shifted entries at has.place (length places, name) (slot, known) within has.value) [
          | inl first ↦ let same : name ≡ known = ap (λ (entry : Entry). entry.1) first.1 in rw (← same) is
          | inr first ↦ stands.texts slot known (record { place = first.place; value = first.value })
        ]

  module _ (at slot : ℕ) (name : List ℕ) (here : slice_get entries at ≡ Some (slot, name)) where
    pub take-fit : SlotsFit (remove entries at) (length places)
    take-fit = fit-remove entries at slot name here (length places) fit

    pub take-before : ArePlaced (remove entries at) places at
    take-before = placed-remove entries at slot name here places stands.placed

    pub take-listed : (slots : List ℕ) → IsNameIndex (HasBut entries slot) slots → IsNameIndex (Has (remove entries at)) slots
    take-listed slots index =
        index_same (HasBut entries slot) (Has (remove entries at)) slots
        (has-remove entries at slot name here) (has_but-remove entries at slot name here (length places) fit) index

    pub take-texts : (held : ℕ) (known : List ℕ) → Has (remove entries at) held known → IsValueName known
    take-texts held known has = stands.texts held known (has_from_remove entries at slot name here held known has)

    module _ (new : List ℕ) where
      -- an entry after the renaming was there, or is the renamed one
      renamed_slot : (k held : ℕ) (known : List ℕ) → slice_get (slice_set entries at (slot, new)) k ≡ Some (held, known) → (before : List ℕ) × (slice_get entries k ≡ Some (held, before))
      renamed_slot k held known h =
          elim (cases_order at k) [
            | inl e ↦
                let put : slice_get (slice_set entries at (slot, new)) at ≡ Some (slot, new) = set_at entries at (slot, new) (slice_get_within entries at (slot, name) here) in
                let same : slot ≡ held = ap (λ (entry : Entry). entry.0) (one_element (slice_set entries at (slot, new)) at (slot, new) (held, known) put (rw (← e) at h)) in
                (name, rw (← e, ← same) here)
            | inr apart ↦ (known, sym (set_other entries at k (slot, new) (differ k apart)) ∙ h)
          ]
        where
          differ : (k : ℕ) → (at < k) ⊎ (k < at) → at ≢ k
          differ k apart e = elim apart [ inl less ↦ omega (arith, e, less) | inr more ↦ omega (arith, e, more) ]

      pub rename-placed : ArePlaced (slice_set entries at (slot, new)) places (length (slice_set entries at (slot, new)))
      rename-placed = record {
        at = λ place held known h g.
            let before = renamed_slot place held known g in
            stands.placed.at place held before.0 (slice_get_within entries place (held, before.0) before.1) before.1;
      }

      other_kept : (held : ℕ) (known : List ℕ) → HasBut entries slot held known → HasBut (slice_set entries at (slot, new)) slot held known
      other_kept held known has =
          let apart : at ≢ has.place = λ e. has.other (ap (λ (entry : Entry). entry.0) (one_element entries at (slot, name) (held, known) here (rw (← e) at has.value))) in
          record { place = has.place; value = set_other entries at has.place (slot, new) apart ∙ has.value; other = has.other }

      moved_on : (held : ℕ) (known : List ℕ) (place : ℕ) → slice_get (slice_set entries at (slot, new)) place ≡ Some (held, known) → (slot ≡ held → ⊥) → at ≢ place
      moved_on held known place value other e =
          let put : slice_get (slice_set entries at (slot, new)) at ≡ Some (slot, new) = set_at entries at (slot, new) (slice_get_within entries at (slot, name) here) in
          other (ap (λ (entry : Entry). entry.0) (one_element (slice_set entries at (slot, new)) at (slot, new) (held, known) put (rw (← e) at value)))

      other_was : (held : ℕ) (known : List ℕ) → HasBut (slice_set entries at (slot, new)) slot held known → HasBut entries slot held known
      other_was held known has =
          let apart : at ≢ has.place = moved_on held known has.place has.value has.other in
          record { place = has.place; value = sym (set_other entries at has.place (slot, new) apart) ∙ has.value; other = has.other }

      pub rename-listed : (slots : List ℕ) → IsNameIndex (HasBut entries slot) slots → IsNameIndex (HasBut (slice_set entries at (slot, new)) slot) slots
      rename-listed slots index =
          index_same (HasBut entries slot) (HasBut (slice_set entries at (slot, new)) slot) slots other_kept other_was index

      pub rename-has : Has (slice_set entries at (slot, new)) slot new
      rename-has = record { place = at; value = set_at entries at (slot, new) (slice_get_within entries at (slot, name) here) }

      pub rename-unused : ((held : ℕ) → Has entries held new → ⊥) → (held : ℕ) → HasBut (slice_set entries at (slot, new)) slot held new → ⊥
      rename-unused unused held has = let was = other_was held new has in unused held (record { place = was.place; value = was.value })

      pub rename-texts : IsValueName new → (held : ℕ) (known : List ℕ) → Has (slice_set entries at (slot, new)) held known → IsValueName known
      rename-texts is held known has =
          elim (cases_order at has.place) [
            | inl e ↦
                let put : slice_get (slice_set entries at (slot, new)) at ≡ Some (slot, new) = set_at entries at (slot, new) (slice_get_within entries at (slot, name) here) in
                let same : new ≡ known = ap (λ (entry : Entry). entry.1) (one_element (slice_set entries at (slot, new)) at (slot, new) (held, known) put (rw (← e) at has.value)) in
                rw (← same) is
            | inr apart ↦
                stands.texts held known (record { place = has.place; value = sym (set_other entries at has.place (slot, new) (λ e. (elim apart [ inl less ↦ omega (arith, e, less) | inr more ↦ omega (arith, e, more) ]))) ∙ has.value })
          ]

-- a value that is taken out and put in elsewhere
module _ (entries : List Entry) (places : List ℕ) (placed : ArePlaced entries places (length entries)) (from to slot : ℕ) (name : List ℕ) (here : slice_get entries from ≡ Some (slot, name)) (within : to ≤ length (remove entries from)) where
  pub fits : SlotsFit entries (length places)
  fits = fit_from_placed entries places placed

  pub shift-fit : SlotsFit (insert (remove entries from) to (slot, name)) (length places)
  shift-fit =
      fit-insert (remove entries from) to slot name within (length places) (fit-remove entries from slot name here (length places) fits)
      (gone entries from slot name here (length places) fits) (length places) (fits.below from slot name here) (omega arith)

  pub shift-before : (count : ℕ) → count ≤ from → count ≤ to → ArePlaced (insert (remove entries from) to (slot, name)) places count
  shift-before count low early = record {
    at = λ place held known h g.
        let before : slice_get entries place ≡ Some (held, known) =
        sym (insert_below (remove entries from) to place (slot, name) (omega (arith, h, early)) within ∙ remove_below entries from place (omega (arith, h, low))) ∙ g in
        placed.at place held known (slice_get_within entries place (held, known) before) before;
  }

  pub shift-has : (held : ℕ) (known : List ℕ) → Has entries held known → Has (insert (remove entries from) to (slot, name)) held known
  shift-has held known has =
      elim (cases_order has.place from) [
        | inl e ↦ let same : (slot, name) ≡ (held, known) = one_element entries from (slot, name) (held, known) here (rw e at has.value) in
            record { place = to; value = insert_at (remove entries from) to (slot, name) within ∙ ap Some same }
        | inr apart ↦
            let left = left_in entries from has.place (held, known) (λ e. (elim apart [ inl less ↦ omega (arith, e, less) | inr more ↦ omega (arith, e, more) ])) has.value in
            let there = kept (remove entries from) to left.0 (slot, name) (held, known) within left.1 in
            record { place = there.0; value = there.1 }
      ]

  pub shift-had : (held : ℕ) (known : List ℕ) → Has (insert (remove entries from) to (slot, name)) held known → Has entries held known
  shift-had held known has =
      elim (shifted (remove entries from) to has.place (slot, name) (held, known) within has.value) [
        | inl first ↦ record { place = from; value = here ∙ ap Some first.1 }
        | inr first ↦
            let old = drawn entries from first.place (held, known) first.value in
            record { place = old.place; value = old.value }
      ]
