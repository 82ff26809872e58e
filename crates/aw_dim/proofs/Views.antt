-- What the changes of the list of values are, told by slots.
use Rattle.std.proofs.Common.{ℕ, zero, suc, Bool, true, false, cond, not, min, ◌==◌, ◌≡◌, ◌≢◌, ◌+◌, ◌-◌, ◌<◌, ◌≤◌, List, [], ◌∷◌, ◌++◌, length, take, drop, map, filter, slice_get, slice_set, Some, None, insert, remove, refl, sym, subst, ◌∙◌, ap, arith, inl, inr, append_assoc}
use Rattle.std.proofs.lemmas.Bool.{cases_lt}
use Rattle.std.proofs.lemmas.Bool.Decides.{Decides-eqb}
use Rattle.std.proofs.lemmas.List.{take_min, drop_min}
use Rattle.std.proofs.lemmas.List.Edits.{length-remove}
use Rattle.std.proofs.lemmas.Option.{slice_get_within}
use Rattle.aw_dim.specs.DimensionState.{Entry, DimensionState}
use Rattle.aw_dim.specs.Edits.{others, removed, renamed_entry, renamed, moved}
use Rattle.aw_dim.specs.inside.Index.{SlotsFit, IsAt}
use Rattle.aw_dim.proofs.LookUps.{test_false}

-- no value has this slot
record Lacks (entries : List Entry) (slot : ℕ) : Type 0 where
  fails : (k : ℕ) (entry : Entry) → slice_get entries k ≡ Some entry → (entry.0 == slot) ≡ false

-- the value at a place alone has this slot
pub record Alone (entries : List Entry) (slot at : ℕ) : Type 0 where
  pub is : (k : ℕ) (name : List ℕ) → slice_get entries k ≡ Some (slot, name) → k ≡ at

pub alone : (entries : List Entry) (room at slot : ℕ) (name : List ℕ) → SlotsFit entries room → slice_get entries at ≡ Some (slot, name) → Alone entries slot at
alone entries room at slot name fit here = record { is = λ k other h. fit.apart k at slot other name h here }

rest_lacks : (entry : Entry) (entries : List Entry) (slot : ℕ) → Alone (entry ∷ entries) slot zero → Lacks entries slot
rest_lacks entry entries slot only = record { fails = λ k other h. test_false other.0 slot (λ e. let at : suc k ≡ zero = only.is (suc k) other.1 (rw (← e) h) in omega (arith, at)) }

rest_alone : (entry : Entry) (entries : List Entry) (slot at : ℕ) → Alone (entry ∷ entries) slot (suc at) → Alone entries slot at
rest_alone entry entries slot at only = record { is = λ k name h. let e : suc k ≡ suc at = only.is (suc k) name h in omega (arith, e) }

first_fails : (entry : Entry) (entries : List Entry) (slot at : ℕ) → Alone (entry ∷ entries) slot (suc at) → (entry.0 == slot) ≡ false
first_fails entry entries slot at only = test_false entry.0 slot (λ e. let here : zero ≡ suc at = only.is zero entry.1 (ap (λ (held : ℕ). Some (held, entry.1)) e) in omega (arith, here))

first_passes : (entry : Entry) (slot : ℕ) (name : List ℕ) → Some entry ≡ Some (slot, name) → (entry.0 == slot) ≡ true
first_passes entry slot name h = let e : entry ≡ (slot, name) = cc in (Decides-eqb entry.0 slot).1 (ap (λ (x : Entry). x.0) e)

lacks_rest : (entry : Entry) (entries : List Entry) (slot : ℕ) → Lacks (entry ∷ entries) slot → Lacks entries slot
lacks_rest entry entries slot none = record { fails = λ k. none.fails (suc k) }

others_all : (entries : List Entry) (slot : ℕ) → Lacks entries slot → others entries slot ≡ entries
others_all [] slot none = refl
others_all (entry ∷ entries) slot none = rw (none.fails zero entry refl) (ap (λ (rest : List Entry). entry ∷ rest) (others_all entries slot (lacks_rest entry entries slot none)))

value_none : (entries : List Entry) (slot : ℕ) → Lacks entries slot → filter (λ entry. entry.0 == slot) entries ≡ []
value_none [] slot none = refl
value_none (entry ∷ entries) slot none = rw (none.fails zero entry refl) (value_none entries slot (lacks_rest entry entries slot none))

renamed_none : (entries : List Entry) (slot : ℕ) (new : List ℕ) → Lacks entries slot → map (renamed_entry slot new) entries ≡ entries
renamed_none [] slot new none = refl
renamed_none (entry ∷ entries) slot new none = rw (none.fails zero entry refl) (ap (λ (rest : List Entry). entry ∷ rest) (renamed_none entries slot new (lacks_rest entry entries slot none)))

module _ (slot : ℕ) (name : List ℕ) where
  pub others_is : (entries : List Entry) (at : ℕ) → Alone entries slot at → slice_get entries at ≡ Some (slot, name) → others entries slot ≡ remove entries at
  others_is [] at only here = absurd cc
  others_is (entry ∷ entries) zero only here = rw (first_passes entry slot name here) (others_all entries slot (rest_lacks entry entries slot only))
  others_is (entry ∷ entries) (suc at) only here =
      rw (first_fails entry entries slot at only) (ap (λ (rest : List Entry). entry ∷ rest) (others_is entries at (rest_alone entry entries slot at only) here))

  pub value_is : (entries : List Entry) (at : ℕ) → Alone entries slot at → slice_get entries at ≡ Some (slot, name) → filter (λ entry. entry.0 == slot) entries ≡ (slot, name) ∷ []
  value_is [] at only here = absurd cc
  value_is (entry ∷ entries) zero only here =
      let e : entry ≡ (slot, name) = cc in
      rw (first_passes entry slot name here, value_none entries slot (rest_lacks entry entries slot only)) (ap (λ (x : Entry). x ∷ []) e)
  value_is (entry ∷ entries) (suc at) only here =
      rw (first_fails entry entries slot at only) (value_is entries at (rest_alone entry entries slot at only) here)

  -- the name at a place written over
  pub renamed_is : (new : List ℕ) (entries : List Entry) (at : ℕ) → Alone entries slot at → slice_get entries at ≡ Some (slot, name) → map (renamed_entry slot new) entries ≡ slice_set entries at (slot, new)
  renamed_is new [] at only here = absurd cc
  renamed_is new (entry ∷ entries) zero only here =
      let e : entry ≡ (slot, name) = cc in
      rw (first_passes entry slot name here, renamed_none entries slot new (rest_lacks entry entries slot only)) (ap (λ (x : Entry). (let head : Entry = (x.0, new) in head ∷ entries)) e)
  renamed_is new (entry ∷ entries) (suc at) only here =
      rw (first_fails entry entries slot at only) (ap (λ (rest : List Entry). entry ∷ rest) (renamed_is new entries at (rest_alone entry entries slot at only) here))

  -- the value at a place moved
  pub moved_is : (values : DimensionState) (from place : ℕ) → Alone values.entries slot from → slice_get values.entries from ≡ Some (slot, name) → insert (remove values.entries from) (min place (length values.entries - 1)) (slot, name) ≡ (moved values slot place).entries
  moved_is values from place only here =
      let within = slice_get_within values.entries from (slot, name) here in
      let n = length-remove values.entries from within in
      let last : length values.entries - 1 ≡ length (remove values.entries from) = omega (arith, n) in
      rw (others_is values.entries from only here, value_is values.entries from only here, last)
      (capped place (remove values.entries from) (slot, name))
    where
      capped : (place : ℕ) (rest : List Entry) (value : Entry) → insert rest (min place (length rest)) value ≡ take place rest ++ value ∷ [] ++ drop place rest
      capped place rest value =
          rw (take_min place rest, drop_min place rest) (sym (append_assoc (take place rest) (value ∷ []) (drop place rest)))

pub at_view : (values same : DimensionState) (place slot : ℕ) → values ≡ same → IsAt same.entries place slot → IsAt values.entries place slot
at_view values same place slot e here = subst (λ (view : DimensionState). IsAt view.entries place slot) (sym e) here

module _ (values : DimensionState) (room slot place : ℕ) (fit : SlotsFit values.entries room) (here : IsAt values.entries place slot) where
  only : Alone values.entries slot place
  only = alone values.entries room place slot here.name fit here.value

  pub removed_view : (new : List Entry) (next : ℕ) → new ≡ remove values.entries place → next ≡ values.next → record { entries = new; next = next } ≡ removed values slot
  removed_view new next e f =
      let same : new ≡ others values.entries slot = e ∙ sym (others_is slot here.name values.entries place only here.value) in
      λ i. record { entries = same i; next = f i }

  pub renamed_view : (name : List ℕ) (new : List Entry) → new ≡ slice_set values.entries place (slot, name) → record { entries = new; next = values.next } ≡ renamed values slot name
  renamed_view name new e =
      let same : new ≡ map (renamed_entry slot name) values.entries = e ∙ sym (renamed_is slot here.name name values.entries place only here.value) in
      λ i. record { entries = same i; next = values.next }

  pub moved_view : (to : ℕ) (new : List Entry) (next : ℕ) → new ≡ insert (remove values.entries place) (min to (length values.entries - 1)) (slot, here.name) → next ≡ values.next → record { entries = new; next = next } ≡ moved values slot to
  moved_view to new next e f =
      let same : new ≡ (moved values slot to).entries = e ∙ moved_is slot here.name values place to only here.value in
      λ i. record { entries = same i; next = f i }
