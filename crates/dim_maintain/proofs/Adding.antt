-- One value more is added behind those before it.
use Rattle.std.proofs.Common.{ℕ, zero, suc, Bool, true, false, cond, ◌||◌, ◌≡◌, ◌+◌, ◌≤◌, List, [], ◌∷◌, ◌++◌, length, take, drop, insert, Some, None, Option, option_map, find, bytes_eq, refl, sym, ◌∙◌, ap, arith, append-nil, append_assoc}
use Rattle.std.proofs.lemmas.List.{take-append-drop, length-append}
use Rattle.std.proofs.lemmas.List.Edits.{insert-append_left, insert_end}
use Rattle.std.specs.Option.{option_or}
use Rattle.std.proofs.lemmas.List.Folds.{find-append}
use Rattle.aw_dim.specs.DimensionState.{Entry, DimensionState, slot_of}
use Rattle.aw_dim.specs.Edits as edit
use Rattle.dim_maintain.specs.Maintained.{is_among, with_slots}

-- these values at a place, with the next slots
abbrev pub added_at : DimensionState → List (List ℕ) → ℕ → DimensionState
added_at values names at = record { entries = take at values.entries ++ with_slots values.next names ++ drop at values.entries; next = values.next + length names }

pub added_none : (values : DimensionState) (at : ℕ) → values ≡ added_at values [] at
added_none values at =
    let same : values.entries ≡ take at values.entries ++ [] ++ drop at values.entries = sym (ap (λ (xs : List Entry). xs ++ drop at values.entries) (append-nil (take at values.entries)) ∙ take-append-drop at values.entries) in
    let n : values.next ≡ values.next + 0 = omega arith in
    λ i. record { entries = same i; next = n i }

with_slots-push : (slot : ℕ) (names : List (List ℕ)) (name : List ℕ) → with_slots slot (names ++ name ∷ []) ≡ with_slots slot names ++ (slot + length names, name) ∷ []
with_slots-push slot [] name = let e : slot ≡ slot + 0 = omega arith in ap (λ (s : ℕ). (let value : Entry = (s, name) in value ∷ [])) e
with_slots-push slot (first ∷ names) name =
    let e : slot + 1 + length names ≡ slot + suc (length names) = omega arith in
    ap (λ (xs : List Entry). (let value : Entry = (slot, first) in value ∷ xs)) (with_slots-push (slot + 1) names name ∙ ap (λ (s : ℕ). with_slots (slot + 1) names ++ (s, name) ∷ []) e)

pub length-with_slots : (slot : ℕ) (names : List (List ℕ)) → length (with_slots slot names) ≡ length names
length-with_slots slot [] = refl
length-with_slots slot (name ∷ names) = ap suc (length-with_slots (slot + 1) names)

insert_between : (front these rest : List Entry) (at : ℕ) (value : Entry) → at ≡ length front + length these → insert (front ++ these ++ rest) at value ≡ front ++ (these ++ value ∷ []) ++ rest
insert_between front these rest at value e =
    insert-append_left (front ++ these) rest at value (let n = length-append front these in omega (arith, e, n))
    ∙ ap (λ (xs : List Entry). xs ++ rest) (ap (λ (n : ℕ). insert (front ++ these) n value) (e ∙ sym (length-append front these)) ∙ insert_end (front ++ these) value ∙ append_assoc front these (value ∷ []))

pub added_more : (values : DimensionState) (names : List (List ℕ)) (name : List ℕ) (at place : ℕ) → at ≤ length values.entries → place ≡ at + length names → edit.added (added_at values names at) name place ≡ added_at values (names ++ name ∷ []) at
added_more values names name at place few e =
    let front = length_take at values.entries few in
    let n = length-with_slots values.next names in
    let same : (edit.added (added_at values names at) name place).entries ≡ (added_at values (names ++ name ∷ []) at).entries =
    insert_between (take at values.entries) (with_slots values.next names) (drop at values.entries) place (values.next + length names, name) (omega (arith, front, n, e))
    ∙ ap (λ (xs : List Entry). take at values.entries ++ xs ++ drop at values.entries) (sym (with_slots-push values.next names name)) in
    let m = length-append names (name ∷ []) in
    let next : values.next + length names + 1 ≡ values.next + length (names ++ name ∷ []) = omega (arith, m) in
    λ i. record { entries = same i; next = next i }
  where
    length_take : (k : ℕ) (xs : List Entry) → k ≤ length xs → length (take k xs) ≡ k
    length_take zero xs h = refl
    length_take (suc k) [] h = absurd (omega (arith, h))
    length_take (suc k) (x ∷ xs) h = ap suc (length_take k xs (omega (arith, h)))

-- ---- a name that is new is new behind others

module _ (name : List ℕ) where
  abbrev has : Entry → Bool
  has entry = bytes_eq entry.1 name

  pub none_taken : (at : ℕ) (entries : List Entry) → find has entries ≡ None → (find has (take at entries) ≡ None) × (find has (drop at entries) ≡ None)
  none_taken zero entries h = (refl, h)
  none_taken (suc at) [] h = (refl, refl)
  none_taken (suc at) (entry ∷ entries) h = by (has entry) refl (none_taken at entries) h
    where
      by : (b : Bool) → has entry ≡ b → (find has entries ≡ None → (find has (take at entries) ≡ None) × (find has (drop at entries) ≡ None)) → cond b (Some entry) (find has entries) ≡ None → (cond (has entry) (Some entry) (find has (take at entries)) ≡ None) × (find has (drop at entries) ≡ None)
      by true e more h = absurd cc
      by false e more h = (ap (λ (b : Bool). cond b (Some entry) (find has (take at entries))) e ∙ (more h).0, (more h).1)

  none_with : (slot : ℕ) (names : List (List ℕ)) → is_among names name ≡ false → find has (with_slots slot names) ≡ None
  none_with slot [] h = refl
  none_with slot (first ∷ names) h = by (bytes_eq first name) refl (none_with (slot + 1) names) h
    where
      by : (b : Bool) → bytes_eq first name ≡ b → (is_among names name ≡ false → find has (with_slots (slot + 1) names) ≡ None) → (b || is_among names name) ≡ false → cond (bytes_eq first name) (Some (slot, first)) (find has (with_slots (slot + 1) names)) ≡ None
      by true e more h = absurd cc
      by false e more h = ap (λ (b : Bool). cond b (Some (slot, first)) (find has (with_slots (slot + 1) names))) e ∙ more h

  pub no_slot : (found : Option Entry) → option_map (λ (entry : Entry). entry.0) found ≡ None → found ≡ None
  no_slot None h = refl
  no_slot (Some entry) h = absurd cc

  pub still_new : (values : DimensionState) (names : List (List ℕ)) (at : ℕ) → slot_of values name ≡ None → is_among names name ≡ false → slot_of (added_at values names at) name ≡ None
  still_new values names at unused once =
      let none = none_taken at values.entries (no_slot (find has values.entries) unused) in
      ap (option_map (λ (entry : Entry). entry.0))
      (find-append has (take at values.entries ++ with_slots values.next names) (drop at values.entries)
      ∙ ap (λ (o : Option Entry). option_or o (find has (drop at values.entries))) (find-append has (take at values.entries) (with_slots values.next names) ∙ ap (λ (o : Option Entry). option_or o (find has (with_slots values.next names))) none.0 ∙ none_with values.next names once)
      ∙ none.1)

-- ---- where they stand

pub length-added_at : (values : DimensionState) (names : List (List ℕ)) (at : ℕ) → length (added_at values names at).entries ≡ length values.entries + length names
length-added_at values names at =
    let whole = length-append (take at values.entries ++ with_slots values.next names) (drop at values.entries) in
    let front = length-append (take at values.entries) (with_slots values.next names) in
    let these = length-with_slots values.next names in
    let split = length-append (take at values.entries) (drop at values.entries) in
    let all : length (take at values.entries ++ drop at values.entries) ≡ length values.entries = ap (λ (xs : List Entry). length xs) (take-append-drop at values.entries) in
    omega (arith, whole, front, these, split, all)
