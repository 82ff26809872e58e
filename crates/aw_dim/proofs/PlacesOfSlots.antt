-- The places of values, by their slots.
use Rattle.std.proofs.Common.{ℕ, suc, ◌≡◌, ◌≢◌, ◌+◌, ◌<◌, ◌≤◌, ◌⊎◌, List, [], ◌∷◌, ◌++◌, length, slice_get, slice_set, Some, None, insert, remove, refl, sym, ◌∙◌, ap, arith, inl, inr, ⊎_elim}
use Rattle.std.proofs.lemmas.Bool.{cases_lt, cases_order}
use Rattle.std.proofs.lemmas.Option.{slice_get_within}
use Rattle.aw_dim.specs.DimensionState.{Entry}
use Rattle.aw_dim.specs.inside.Index.{Has, HasBut, SlotsFit, ArePlaced, indexed_name, name_at, name_in}
use Rattle.aw_dim.proofs.Editing.{insert_below, insert_at, remove_below, set_at, set_other, append_left, one_element, Shifted, Drawn, shifted, drawn, kept, left_in, shifted_same}

slot_from : (one other : Entry) → one ≡ other → one.0 ≡ other.0
slot_from one other e = ap (λ (entry : Entry). entry.0) e

name_from : (one other : Entry) → one ≡ other → one.1 ≡ other.1
name_from one other e = ap (λ (entry : Entry). entry.1) e

-- the slots of placed values differ, and stand among the places
pub fit_from_placed : (entries : List Entry) (places : List ℕ) → ArePlaced entries places (length entries) → SlotsFit entries (length places)
fit_from_placed entries places placed = record {
  apart = λ one other slot name renamed h g.
      let first = placed.at one slot name (slice_get_within entries one (slot, name) h) h in
      let second = placed.at other slot renamed (slice_get_within entries other (slot, renamed) g) g in
      one_element_place one other (sym first ∙ second);
  below = λ place slot name h.
      slice_get_within places slot place (placed.at place slot name (slice_get_within entries place (slot, name) h) h);
}
  where
    one_element_place : (one other : ℕ) → Some one ≡ Some other → one ≡ other
    one_element_place one other e = cc

-- the name that the places give is the value's
pub name_of_placed : (entries : List Entry) (places : List ℕ) (slot : ℕ) (name : List ℕ) → ArePlaced entries places (length entries) → Has entries slot name → indexed_name entries places slot ≡ name
name_of_placed entries places slot name placed has =
    ap (name_at entries) (placed.at has.place slot name (slice_get_within entries has.place (slot, name) has.value) has.value) ∙ ap name_in has.value

pub one_name : (entries : List Entry) (places : List ℕ) (slot : ℕ) (name other : List ℕ) → ArePlaced entries places (length entries) → Has entries slot name → Has entries slot other → name ≡ other
one_name entries places slot name other placed one two =
    sym (name_of_placed entries places slot name placed one) ∙ name_of_placed entries places slot other placed two

module _ (entries : List Entry) (at slot : ℕ) (name : List ℕ) (within : at ≤ length entries) where
  -- a value whose slot is none of theirs fits
  pub fit-insert : (room : ℕ) → SlotsFit entries room → ((k : ℕ) (other : List ℕ) → slice_get entries k ≡ Some (slot, other) → ⊥) → (more : ℕ) → slot < more → room ≤ more → SlotsFit (insert entries at (slot, name)) more
  fit-insert room fit fresh more new wide = record {
    apart = λ one other held known renamed h g.
        elim (shifted entries at one (slot, name) (held, known) within h) [
          | inl first ↦ elim (shifted entries at other (slot, name) (held, renamed) within g) [
            | inl second ↦ first.0 ∙ sym second.0
            | inr second ↦ absurd (fresh second.place renamed (moved held (slot_from (slot, name) (held, known) first.1) second.place renamed second.value))
          ]
          | inr first ↦ elim (shifted entries at other (slot, name) (held, renamed) within g) [
            | inl second ↦ absurd (fresh first.place known (moved held (slot_from (slot, name) (held, renamed) second.1) first.place known first.value))
            | inr second ↦ together held known renamed one other first second
          ]
        ];
    below = λ place held known h.
        elim (shifted entries at place (slot, name) (held, known) within h) [
          | inl first ↦ let e : slot ≡ held = slot_from (slot, name) (held, known) first.1 in omega (arith, e, new)
          | inr first ↦ let b : held < room = fit.below first.place held known first.value in omega (arith, b, wide)
        ];
  }
    where
      moved : (held : ℕ) → slot ≡ held → (place : ℕ) (known : List ℕ) → slice_get entries place ≡ Some (held, known) → slice_get entries place ≡ Some (slot, known)
      moved held e place known h = rw e h

      together : (held : ℕ) (known renamed : List ℕ) (one other : ℕ) → Shifted entries at one (held, known) → Shifted entries at other (held, renamed) → one ≡ other
      together held known renamed one other first second =
          shifted_same entries at one other (held, known) (held, renamed) first second (fit.apart first.place second.place held known renamed first.value second.value)

  -- the values before it keep their places
  pub placed-insert : (places more : List ℕ) → ArePlaced entries places (length entries) → ArePlaced (insert entries at (slot, name)) (places ++ more) at
  placed-insert places more placed = record {
    at = λ place held known h g.
        let before : slice_get entries place ≡ Some (held, known) = sym (insert_below entries at place (slot, name) h within) ∙ g in
        append_left places more held place (placed.at place held known (slice_get_within entries place (held, known) before) before);
  }

  -- but for the new value they have what they had
  pub has_but-insert : ((k : ℕ) (other : List ℕ) → slice_get entries k ≡ Some (slot, other) → ⊥) → (held : ℕ) (known : List ℕ) → Has entries held known → HasBut (insert entries at (slot, name)) slot held known
  has_but-insert fresh held known has =
      let there = kept entries at has.place (slot, name) (held, known) within has.value in
      record { place = there.0; value = there.1; other = λ e. fresh has.place known (rw e has.value) }

  pub has-has_but-insert : (held : ℕ) (known : List ℕ) → HasBut (insert entries at (slot, name)) slot held known → Has entries held known
  has-has_but-insert held known has =
      elim (shifted entries at has.place (slot, name) (held, known) within has.value) [
        | inl first ↦ absurd (has.other (slot_from (slot, name) (held, known) first.1))
        | inr first ↦ record { place = first.place; value = first.value }
      ]

  pub has-insert : Has (insert entries at (slot, name)) slot name
  has-insert = record { place = at; value = insert_at entries at (slot, name) within }

module _ (entries : List Entry) (at slot : ℕ) (name : List ℕ) (here : slice_get entries at ≡ Some (slot, name)) where
  -- the other values fit still, and have other slots
  pub fit-remove : (room : ℕ) → SlotsFit entries room → SlotsFit (remove entries at) room
  fit-remove room fit = record {
    apart = λ one other held known renamed h g. together held known renamed one other (drawn entries at one (held, known) h) (drawn entries at other (held, renamed) g);
    below = λ place held known h. let first = drawn entries at place (held, known) h in fit.below first.place held known first.value;
  }
    where
      together : (held : ℕ) (known renamed : List ℕ) (one other : ℕ) → Drawn entries at one (held, known) → Drawn entries at other (held, renamed) → one ≡ other
      together held known renamed one other first second =
          let same : first.place ≡ second.place = fit.apart first.place second.place held known renamed first.value second.value in
          elim (cases_lt one at) [
            | inl less ↦ elim (cases_lt other at) [
              | inl before ↦ sym (first.below less) ∙ same ∙ second.below before
              | inr behind ↦ let p = first.below less in let q = second.from behind in absurd (omega (arith, p, q, same, less, behind))
            ]
            | inr more ↦ elim (cases_lt other at) [
              | inl before ↦ let p = first.from more in let q = second.below before in absurd (omega (arith, p, q, same, more, before))
              | inr behind ↦ let p = first.from more in let q = second.from behind in omega (arith, p, q, same)
            ]
          ]

  pub gone : (room : ℕ) → SlotsFit entries room → (k : ℕ) (other : List ℕ) → slice_get (remove entries at) k ≡ Some (slot, other) → ⊥
  gone room fit k other h =
      let first = drawn entries at k (slot, other) h in
      first.other (fit.apart first.place at slot other name first.value here)

  pub placed-remove : (places : List ℕ) → ArePlaced entries places (length entries) → ArePlaced (remove entries at) places at
  placed-remove places placed = record {
    at = λ place held known h g.
        let before : slice_get entries place ≡ Some (held, known) = sym (remove_below entries at place h) ∙ g in
        placed.at place held known (slice_get_within entries place (held, known) before) before;
  }

  pub has-remove : (held : ℕ) (known : List ℕ) → HasBut entries slot held known → Has (remove entries at) held known
  has-remove held known has =
      let there = left_in entries at has.place (held, known) (λ e. has.other (slot_from (slot, name) (held, known) (one_element entries at (slot, name) (held, known) here (rw e at has.value)))) has.value in
      record { place = there.0; value = there.1 }

  pub has_but-remove : (room : ℕ) → SlotsFit entries room → (held : ℕ) (known : List ℕ) → Has (remove entries at) held known → HasBut entries slot held known
  has_but-remove room fit held known has =
      let first = drawn entries at has.place (held, known) has.value in
      record { place = first.place; value = first.value; other = λ e. first.other (fit.apart first.place at held known name first.value (rw e at here)) }

  pub has_from_remove : (held : ℕ) (known : List ℕ) → Has (remove entries at) held known → Has entries held known
  has_from_remove held known has =
      let first = drawn entries at has.place (held, known) has.value in
      record { place = first.place; value = first.value }

-- one more place written at its slot
pub mark_step : (entries : List Entry) (places : List ℕ) (room place slot : ℕ) (name : List ℕ) → SlotsFit entries room → ArePlaced entries places place → slice_get entries place ≡ Some (slot, name) → slot < length places → ArePlaced entries (slice_set places slot place) (place + 1)
mark_step entries places room place slot name fit placed here within = record {
  at = λ k held known h g.
      elim (cases_order k place) [
        | inl e ↦
            let same : (held, known) ≡ (slot, name) = one_element entries place (held, known) (slot, name) (rw e at g) here in
            let is : slot ≡ held = slot_from (slot, name) (held, known) (sym same) in
            written k held e is
        | inr apart ↦ elim apart [
          | inl less ↦
              set_other places slot held place (λ is. (let again : k ≡ place = fit.apart k place held known name g (rw (← is) here) in omega (arith, again, less)))
              ∙ placed.at k held known less g
          | inr more ↦ absurd (omega (arith, h, more))
        ]
      ];
}
  where
    written : (k held : ℕ) → k ≡ place → slot ≡ held → slice_get (slice_set places slot place) held ≡ Some k
    written k held e is = rw (← is, e) (set_at places slot place within)

-- one more place found at its slot
pub found_step : (entries : List Entry) (places : List ℕ) (place slot : ℕ) (name : List ℕ) → ArePlaced entries places place → slice_get entries place ≡ Some (slot, name) → slice_get places slot ≡ Some place → ArePlaced entries places (place + 1)
found_step entries places place slot name placed here found = record {
  at = λ k held known h g.
      elim (cases_order k place) [
        | inl e ↦
            let same : (held, known) ≡ (slot, name) = one_element entries place (held, known) (slot, name) (rw e at g) here in
            let is : slot ≡ held = slot_from (slot, name) (held, known) (sym same) in
            rw (← is, e) found
        | inr apart ↦ elim apart [
          | inl less ↦ placed.at k held known less g
          | inr more ↦ absurd (omega (arith, h, more))
        ]
      ];
}
