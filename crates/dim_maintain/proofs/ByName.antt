-- Changes of a dimension by slots are these by names.
use Rattle.std.proofs.Common.{ℕ, zero, suc, Bool, true, false, cond, not, ◌||◌, ◌==◌, ◌≡◌, ◌≤◌, ◌<◌, ◌-◌, List, [], ◌∷◌, ◌++◌, length, take, drop, slice_get, Some, None, option_map, filter, map, bytes_eq, refl, sym, ◌∙◌, ap, arith, append-nil, append_assoc}
use Rattle.std.proofs.lemmas.List.{take_all, drop_all, length-append}
use Rattle.std.proofs.lemmas.List.Elements.{filter-append}
use Rattle.std.proofs.lemmas.Bool.Decides.{Decides-eqb}
use Rattle.aw_dim.specs.DimensionState.{Entry, DimensionState, IsDimension, HasSlot, slot_of}
use Rattle.aw_dim.specs.Edits as edit
use Rattle.dim_maintain.specs.Maintained.{is_among, others, named, deleted, renamed, renamed_entry}
use Rattle.dim_maintain.proofs.Apart.{same_bool, bytes_sym, filter_on, map_on, filter_every, filter_none, found, unfound, agree, one_slot, has_slot}

or_false : (b : Bool) → (b || false) ≡ b
or_false true = refl
or_false false = refl

pub among_one : (name other : List ℕ) → is_among (name ∷ []) other ≡ bytes_eq other name
among_one name other = or_false (bytes_eq name other) ∙ bytes_sym name other

pub length-filter_most : {X : Type 0} (p : X → Bool) (xs : List X) → length (filter p xs) ≤ length xs
length-filter_most p [] = omega arith
length-filter_most p (x ∷ xs) = by (p x) (length-filter_most p xs)
  where
    by : (b : Bool) → length (filter p xs) ≤ length xs → length (cond b (x ∷ filter p xs) (filter p xs)) ≤ suc (length xs)
    by true h = omega (arith, h)
    by false h = omega (arith, h)

state : (entries other : List Entry) (next : ℕ) → entries ≡ other → ◌≡◌ {A = DimensionState} (record { entries = entries; next = next }) (record { entries = other; next = next })
state entries other next e = λ i. record { entries = e i; next = next }

module _ (values : DimensionState) (valid : IsDimension values) (name : List ℕ) where
  -- the value of the name has its slot
  pub known_slot : (slot : ℕ) → slot_of values name ≡ Some slot → HasSlot values slot
  known_slot slot h = let here = found values.entries slot name h in has_slot values.entries slot name here.place here.value

  by_slot : (slot : ℕ) → slot_of values name ≡ Some slot → (k : ℕ) (x : Entry) → slice_get values.entries k ≡ Some x → (x.0 == slot) ≡ bytes_eq x.1 name
  by_slot slot h = agree values valid slot name (found values.entries slot name h)

  others_one : (slot : ℕ) → slot_of values name ≡ Some slot → edit.others values.entries slot ≡ others (name ∷ []) values.entries
  others_one slot h =
      filter_on (λ (x : Entry). not (x.0 == slot)) (λ (x : Entry). not (is_among (name ∷ []) x.1)) values.entries
      (λ k x g. ap not (by_slot slot h k x g ∙ sym (among_one name x.1)))

  named_one : (slot : ℕ) → slot_of values name ≡ Some slot → filter (λ (x : Entry). x.0 == slot) values.entries ≡ named values.entries name
  named_one slot h = filter_on (λ (x : Entry). x.0 == slot) (λ (x : Entry). bytes_eq x.1 name) values.entries (by_slot slot h)

  pub others_none : slot_of values name ≡ None → others (name ∷ []) values.entries ≡ values.entries
  others_none h = filter_every (λ (x : Entry). not (is_among (name ∷ []) x.1)) values.entries (λ k x g. ap not (among_one name x.1 ∙ unfound values.entries name h k x g))

  named_none : slot_of values name ≡ None → named values.entries name ≡ []
  named_none h = filter_none (λ (x : Entry). bytes_eq x.1 name) values.entries (unfound values.entries name h)

  pub removed_one : (slot : ℕ) → slot_of values name ≡ Some slot → edit.removed values slot ≡ deleted values (name ∷ [])
  removed_one slot h = state (edit.others values.entries slot) (others (name ∷ []) values.entries) values.next (others_one slot h)

  pub removed_none : slot_of values name ≡ None → values ≡ deleted values (name ∷ [])
  removed_none h = state values.entries (others (name ∷ []) values.entries) values.next (sym (others_none h))

  -- the value of the name, moved behind all others
  abbrev pub behind : DimensionState
  behind = record { entries = others (name ∷ []) values.entries ++ named values.entries name; next = values.next }

  pub behind_one : (slot last : ℕ) → slot_of values name ≡ Some slot → last ≡ length values.entries → edit.moved values slot last ≡ behind
  behind_one slot last h is =
      let rest = others (name ∷ []) values.entries in
      let few : length rest ≤ last = (let most = length-filter_most (λ (x : Entry). not (is_among (name ∷ []) x.1)) values.entries in omega (arith, most, is)) in
      let same : (edit.moved values slot last).entries ≡ rest ++ named values.entries name =
      ap (λ (ys : List Entry). take last ys ++ filter (λ (x : Entry). x.0 == slot) values.entries ++ drop last ys) (others_one slot h)
      ∙ ap (λ (ys : List Entry). take last rest ++ ys ++ drop last rest) (named_one slot h)
      ∙ ap (λ (ys : List Entry). ys ++ named values.entries name ++ drop last rest) (take_all last rest few)
      ∙ ap (λ (ys : List Entry). rest ++ named values.entries name ++ ys) (drop_all last rest few)
      ∙ append-nil (rest ++ named values.entries name) in
      state (edit.moved values slot last).entries (rest ++ named values.entries name) values.next same

  pub behind_none : slot_of values name ≡ None → values ≡ behind
  behind_none h =
      state values.entries (others (name ∷ []) values.entries ++ named values.entries name) values.next
      (sym (ap (λ (ys : List Entry). others (name ∷ []) values.entries ++ ys) (named_none h) ∙ append-nil (others (name ∷ []) values.entries) ∙ others_none h))

  pub renamed_one : (slot : ℕ) (new : List ℕ) → slot_of values name ≡ Some slot → edit.renamed values slot new ≡ renamed values name new
  renamed_one slot new h =
      state (map (edit.renamed_entry slot new) values.entries) (map (renamed_entry name new) values.entries) values.next
      (map_on (edit.renamed_entry slot new) (renamed_entry name new) values.entries (λ k x g. ap (λ (b : Bool). (x.0, cond b new x.1)) (by_slot slot h k x g)))

  pub renamed_none : (new : List ℕ) → slot_of values name ≡ None → values ≡ renamed values name new
  renamed_none new h =
      state values.entries (map (renamed_entry name new) values.entries) values.next
      (sym (map_same (renamed_entry name new) values.entries (λ k x g. ap (λ (b : Bool). (let left : Entry = (x.0, cond b new x.1) in left)) (unfound values.entries name h k x g))))
    where
      map_same : (f : Entry → Entry) (xs : List Entry) → ((k : ℕ) (x : Entry) → slice_get xs k ≡ Some x → f x ≡ x) → map f xs ≡ xs
      map_same f [] h = refl
      map_same f (x ∷ xs) h = λ i. h zero x refl i ∷ map_same f xs (λ k. h (suc k)) i

-- ---- the last value

module _ (values : DimensionState) (valid : IsDimension values) (rest : List Entry) (last : Entry) (is : values.entries ≡ rest ++ last ∷ []) where
  append_get : {X : Type 0} (xs ys : List X) (k : ℕ) (x : X) → slice_get xs k ≡ Some x → slice_get (xs ++ ys) k ≡ Some x
  append_get [] ys k x h = absurd cc
  append_get (z ∷ xs) ys zero x h = h
  append_get (z ∷ xs) ys (suc k) x h = append_get xs ys k x h

  append_last : {X : Type 0} (xs : List X) (x : X) → slice_get (xs ++ x ∷ []) (length xs) ≡ Some x
  append_last [] x = refl
  append_last (z ∷ xs) x = append_last xs x

  pub last_is : slice_get values.entries (length rest) ≡ Some last
  last_is = ap (λ (xs : List Entry). slice_get xs (length rest)) is ∙ append_last rest last

  pub last_place : (count : ℕ) → count ≡ length values.entries → count - 1 ≡ length rest
  last_place count e =
      let n : length values.entries ≡ length (rest ++ last ∷ []) = ap (λ (xs : List Entry). length xs) is in
      let m = length-append rest (last ∷ []) in
      omega (arith, n, m, e)

  pub last_slot : option_map (λ (entry : Entry). entry.0) (slice_get values.entries (length rest)) ≡ Some last.0
  last_slot = ap (option_map (λ (entry : Entry). entry.0)) last_is

  pub last_there : HasSlot values last.0
  last_there = has_slot values.entries last.0 last.1 (length rest) last_is

  earlier : (k : ℕ) (x : Entry) → slice_get rest k ≡ Some x → (x.0 == last.0) ≡ false
  earlier k x h =
      same_bool (x.0 == last.0) false
      (λ yes. absurd (let same : k ≡ length rest = one_slot values valid k (length rest) x last (ap (λ (xs : List Entry). slice_get xs k) is ∙ append_get rest (last ∷ []) k x h) last_is ((Decides-eqb x.0 last.0).0 yes) in let less : k < length rest = within rest k x h in omega (arith, same, less)))
      (λ e. absurd cc)
    where
      within : (xs : List Entry) (k : ℕ) (x : Entry) → slice_get xs k ≡ Some x → k < length xs
      within [] k x h = absurd cc
      within (z ∷ xs) zero x h = omega arith
      within (z ∷ xs) (suc k) x h = let rec = within xs k x h in omega (arith, rec)

  itself : (last.0 == last.0) ≡ true
  itself = (Decides-eqb last.0 last.0).1 refl

  others_last : edit.others values.entries last.0 ≡ rest
  others_last =
      ap (λ (xs : List Entry). filter (λ (x : Entry). not (x.0 == last.0)) xs) is
      ∙ filter-append (λ (x : Entry). not (x.0 == last.0)) rest (last ∷ [])
      ∙ ap (λ (b : Bool). filter (λ (x : Entry). not (x.0 == last.0)) rest ++ cond (not b) (last ∷ []) []) itself
      ∙ append-nil (filter (λ (x : Entry). not (x.0 == last.0)) rest)
      ∙ filter_every (λ (x : Entry). not (x.0 == last.0)) rest (λ k x h. ap not (earlier k x h))

  value_last : filter (λ (x : Entry). x.0 == last.0) values.entries ≡ last ∷ []
  value_last =
      ap (λ (xs : List Entry). filter (λ (x : Entry). x.0 == last.0) xs) is
      ∙ filter-append (λ (x : Entry). x.0 == last.0) rest (last ∷ [])
      ∙ ap (λ (b : Bool). filter (λ (x : Entry). x.0 == last.0) rest ++ cond b (last ∷ []) []) itself
      ∙ ap (λ (xs : List Entry). xs ++ last ∷ []) (filter_none (λ (x : Entry). x.0 == last.0) rest earlier)

  pub moved_last : (at : ℕ) → edit.moved values last.0 at ≡ record { entries = take at rest ++ last ∷ drop at rest; next = values.next }
  moved_last at =
      let same : (edit.moved values last.0 at).entries ≡ take at rest ++ last ∷ drop at rest =
      ap (λ (xs : List Entry). take at xs ++ filter (λ (x : Entry). x.0 == last.0) values.entries ++ drop at xs) others_last
      ∙ ap (λ (xs : List Entry). take at rest ++ xs ++ drop at rest) value_last
      ∙ append_assoc (take at rest) (last ∷ []) (drop at rest) in
      state (edit.moved values last.0 at).entries (take at rest ++ last ∷ drop at rest) values.next same
