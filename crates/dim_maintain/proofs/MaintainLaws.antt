-- The laws on MAINTAIN.
use Rattle.std.proofs.Common.{ℕ, zero, suc, Bool, true, false, cond, not, ◌||◌, ◌≡◌, ◌+◌, ◌<◌, List, [], ◌∷◌, ◌++◌, length, take, drop, map, slice_get, slice_index_or, Some, None, Option, option_map, find, bytes_eq, refl, sym, subst, ◌∙◌, ap, arith, append-nil, append_assoc}
use Rattle.std.specs.Option.{option_or}
use Rattle.std.specs.List.Sorted.{IsPermutation}
use Rattle.std.proofs.lemmas.List.{take-append-drop}
use Rattle.std.proofs.lemmas.List.Elements.{filter-append}
use Rattle.std.proofs.lemmas.List.Folds.{find-append}
use Rattle.std.proofs.lemmas.List.Sorted.{IsPermutation-refl, IsPermutation-trans, IsPermutation-append_comm, IsPermutation-append_right, IsPermutation-filter_both}
use Rattle.std.proofs.lemmas.Option.{slice_get_within, get_or_from_slice_get}
use Rattle.std.proofs.lemmas.Slice.Eq.{bytes_eq-Decides}
use Rattle.aw_dim.specs.DimensionState.{Entry, DimensionState, slot_of}
use Rattle.dml_tree.specs.declared.statement.Place.{Place}
use Rattle.dim_maintain.specs.declared.fault.MaintainFault.{MaintainFault}
use Rattle.dim_maintain.specs.Maintained.{is_among, others, named, in_order, with_slots, count_at, added, moved, renamed_entry}
use Rattle.dim_maintain.specs.Causes.{first_cause, added_cause, moved_cause}
use Rattle.dim_maintain.specs.Laws.{Cause, FirstCauses, AddedSlots, NewSlotAgain, MovedSlots, RenamedSlots}
use Rattle.dim_maintain.proofs.Apart.{bytes_sym, filter_every, found, unfound}
use Rattle.dim_maintain.proofs.ByName.{among_one, length-filter_most}
use Rattle.dim_maintain.proofs.Adding.{no_slot, none_taken}
use Rattle.dim_maintain.proofs.Behind.{behind_all, behind_more, behind_none_yet}
use Rattle.dim_maintain.proofs.Checked.{none_of, new_name, old_name, names_and_places}

-- ---- the order of causes

first_of : (cause : Cause) (earlier names : List (List ℕ)) (fault : MaintainFault) → first_cause cause earlier names ≡ Some fault →
    (place : ℕ) × (name : List ℕ) × (slice_get names place ≡ Some name) × (cause (earlier ++ take place names) name ≡ Some fault)
    × ((k : ℕ) (other : List ℕ) → k < place → slice_get names k ≡ Some other → cause (earlier ++ take k names) other ≡ None)
first_of cause earlier [] fault h = absurd cc
first_of cause earlier (name ∷ names) fault h = by (cause earlier name) refl (first_of cause (earlier ++ name ∷ []) names fault) h
  where
    by : (told : Option MaintainFault) → cause earlier name ≡ told
        → (first_cause cause (earlier ++ name ∷ []) names ≡ Some fault → (place : ℕ) × (other : List ℕ) × (slice_get names place ≡ Some other) × (cause ((earlier ++ name ∷ []) ++ take place names) other ≡ Some fault) × ((k : ℕ) (one : List ℕ) → k < place → slice_get names k ≡ Some one → cause ((earlier ++ name ∷ []) ++ take k names) one ≡ None))
        → option_or told (first_cause cause (earlier ++ name ∷ []) names) ≡ Some fault
        → (place : ℕ) × (other : List ℕ) × (slice_get (name ∷ names) place ≡ Some other) × (cause (earlier ++ take place (name ∷ names)) other ≡ Some fault) × ((k : ℕ) (one : List ℕ) → k < place → slice_get (name ∷ names) k ≡ Some one → cause (earlier ++ take k (name ∷ names)) one ≡ None)
    by (Some told) e more h = (zero, name, refl, ap (λ (xs : List (List ℕ)). cause xs name) (append-nil earlier) ∙ e ∙ h, λ k one less. absurd (omega (arith, less)))
    by None e more h =
        let rest = more h in
        (suc rest.0, rest.1, rest.2, ap (λ (xs : List (List ℕ)). cause xs rest.1) (sym (append_assoc earlier (name ∷ []) (take rest.0 names))) ∙ rest.3, before rest.0 rest.4)
      where
        before : (place : ℕ) → ((k : ℕ) (one : List ℕ) → k < place → slice_get names k ≡ Some one → cause ((earlier ++ name ∷ []) ++ take k names) one ≡ None) → (k : ℕ) (one : List ℕ) → k < suc place → slice_get (name ∷ names) k ≡ Some one → cause (earlier ++ take k (name ∷ names)) one ≡ None
        before place none zero one less g = let same : name ≡ one = cc in ap (λ (xs : List (List ℕ)). cause xs one) (append-nil earlier) ∙ ap (cause earlier) (sym same) ∙ e
        before place none (suc k) one less g = ap (λ (xs : List (List ℕ)). cause xs one) (sym (append_assoc earlier (name ∷ []) (take k names))) ∙ none k one (omega (arith, less)) g

pub first_causes_hold : FirstCauses
first_causes_hold = record {
  none = λ cause names h k name less here. none_of cause [] names h k name here;
  some = λ cause names fault h. (let first = first_of cause [] names fault h in record { place = first.0; name = first.1; here = first.2; told = first.3; none_before = first.4 });
}

-- ---- ADD

-- no value has one of some names, each of which is unused
all_others : (values : DimensionState) (names : List (List ℕ)) → ((k : ℕ) (name : List ℕ) → slice_get names k ≡ Some name → slot_of values name ≡ None) → (k : ℕ) (x : Entry) → slice_get values.entries k ≡ Some x → not (is_among names x.1) ≡ true
all_others values [] unused k x h = refl
all_others values (name ∷ names) unused k x h =
    ap not (ap (λ (b : Bool). b || is_among names x.1) (bytes_sym name x.1 ∙ unfound values.entries name (unused zero name refl) k x h))
    ∙ all_others values names (λ j. unused (suc j)) k x h

others_kept : (names : List (List ℕ)) (count : ℕ) (entries : List Entry) → others names entries ≡ entries → (others names (take count entries) ≡ take count entries) × (others names (drop count entries) ≡ drop count entries)
others_kept names zero entries h = (refl, h)
others_kept names (suc count) [] h = (refl, refl)
others_kept names (suc count) (entry ∷ entries) h = by (is_among names entry.1) refl (others_kept names count entries) h
  where
    by : (b : Bool) → is_among names entry.1 ≡ b → (others names entries ≡ entries → (others names (take count entries) ≡ take count entries) × (others names (drop count entries) ≡ drop count entries)) → cond (not b) (entry ∷ others names entries) (others names entries) ≡ entry ∷ entries → (cond (not (is_among names entry.1)) (entry ∷ others names (take count entries)) (others names (take count entries)) ≡ entry ∷ take count entries) × (others names (drop count entries) ≡ drop count entries)
    by true e more h =
        let n : length (others names entries) ≡ suc (length entries) = ap (λ (xs : List Entry). length xs) h in
        let most = length-filter_most (λ (x : Entry). not (is_among names x.1)) entries in
        absurd (omega (arith, n, most))
    by false e more h =
        let rest : others names entries ≡ entries = cc in
        let kept = more rest in
        (ap (λ (b : Bool). cond (not b) (entry ∷ others names (take count entries)) (others names (take count entries))) e ∙ ap (λ (xs : List Entry). entry ∷ xs) kept.0, kept.1)

-- the values of some names are none of the others
none_left : (names all : List (List ℕ)) (slot : ℕ) → ((k : ℕ) (name : List ℕ) → slice_get names k ≡ Some name → is_among all name ≡ true) → others all (with_slots slot names) ≡ []
none_left [] all slot among = refl
none_left (name ∷ names) all slot among = rw (among zero name refl) (none_left names all (slot + 1) (λ k. among (suc k)))

member : (names : List (List ℕ)) (k : ℕ) (name : List ℕ) → slice_get names k ≡ Some name → is_among names name ≡ true
member [] k name h = absurd cc
member (first ∷ names) zero name h = let same : first ≡ name = cc in ap (λ (b : Bool). b || is_among names name) ((bytes_eq-Decides first name).1 same)
member (first ∷ names) (suc k) name h = ap (λ (b : Bool). bytes_eq first name || b) (member names k name h) ∙ or_true (bytes_eq first name)
  where
    or_true : (b : Bool) → (b || true) ≡ true
    or_true true = refl
    or_true false = refl

added_stay : (values : DimensionState) (names : List (List ℕ)) (place : Place) → added_cause values names place ≡ None → others names (added values names place).entries ≡ values.entries
added_stay values names place h =
    let stays : others names values.entries ≡ values.entries = filter_every (λ (x : Entry). not (is_among names x.1)) values.entries (all_others values names (λ k name here. (new_name values names place h k name here).unused)) in
    let kept = others_kept names (count_at place values.entries) values.entries stays in
    filter-append (λ (x : Entry). not (is_among names x.1)) (take (count_at place values.entries) values.entries ++ with_slots values.next names) (drop (count_at place values.entries) values.entries)
    ∙ ap (λ (xs : List Entry). xs ++ others names (drop (count_at place values.entries) values.entries)) (filter-append (λ (x : Entry). not (is_among names x.1)) (take (count_at place values.entries) values.entries) (with_slots values.next names) ∙ ap (λ (xs : List Entry). xs ++ others names (with_slots values.next names)) kept.0 ∙ ap (λ (xs : List Entry). take (count_at place values.entries) values.entries ++ xs) (none_left names names values.next (member names)) ∙ append-nil (take (count_at place values.entries) values.entries))
    ∙ ap (λ (xs : List Entry). take (count_at place values.entries) values.entries ++ xs) kept.1
    ∙ take-append-drop (count_at place values.entries) values.entries

-- the slot of a name that wasn't written before
nth_slot : (slot : ℕ) (names : List (List ℕ)) (k : ℕ) (name : List ℕ) → slice_get names k ≡ Some name → is_among (take k names) name ≡ false → option_map (λ (entry : Entry). entry.0) (find (λ (entry : Entry). bytes_eq entry.1 name) (with_slots slot names)) ≡ Some (slot + k)
nth_slot slot [] k name h once = absurd cc
nth_slot slot (first ∷ names) zero name h once =
    let same : first ≡ name = cc in
    ap (λ (b : Bool). option_map (λ (entry : Entry). entry.0) (cond b (Some (slot, first)) (find (λ (entry : Entry). bytes_eq entry.1 name) (with_slots (slot + 1) names)))) ((bytes_eq-Decides first name).1 same) ∙ ap Some (omega arith)
nth_slot slot (first ∷ names) (suc k) name h once = by (bytes_eq first name) refl (nth_slot (slot + 1) names k name h) once
  where
    by : (b : Bool) → bytes_eq first name ≡ b → (is_among (take k names) name ≡ false → option_map (λ (entry : Entry). entry.0) (find (λ (entry : Entry). bytes_eq entry.1 name) (with_slots (slot + 1) names)) ≡ Some (slot + 1 + k)) → (b || is_among (take k names) name) ≡ false → option_map (λ (entry : Entry). entry.0) (cond (bytes_eq first name) (Some (slot, first)) (find (λ (entry : Entry). bytes_eq entry.1 name) (with_slots (slot + 1) names))) ≡ Some (slot + suc k)
    by true e more once = absurd cc
    by false e more once =
        ap (λ (b : Bool). option_map (λ (entry : Entry). entry.0) (cond b (Some (slot, first)) (find (λ (entry : Entry). bytes_eq entry.1 name) (with_slots (slot + 1) names)))) e
        ∙ more once ∙ ap Some (omega arith)

-- the value of an unused name among values that were put at a place is found there
placed_slot : (entries these : List Entry) (at : ℕ) (name : List ℕ) (slot : ℕ) → option_map (λ (entry : Entry). entry.0) (find (λ (entry : Entry). bytes_eq entry.1 name) entries) ≡ None → option_map (λ (entry : Entry). entry.0) (find (λ (entry : Entry). bytes_eq entry.1 name) these) ≡ Some slot → option_map (λ (entry : Entry). entry.0) (find (λ (entry : Entry). bytes_eq entry.1 name) (take at entries ++ these ++ drop at entries)) ≡ Some slot
placed_slot entries these at name slot unused here =
    let none = none_taken name at entries (no_slot name (find (λ (entry : Entry). bytes_eq entry.1 name) entries) unused) in
    ap (option_map (λ (entry : Entry). entry.0))
    (find-append (λ (entry : Entry). bytes_eq entry.1 name) (take at entries ++ these) (drop at entries)
    ∙ ap (λ (o : Option Entry). option_or o (find (λ (entry : Entry). bytes_eq entry.1 name) (drop at entries))) (find-append (λ (entry : Entry). bytes_eq entry.1 name) (take at entries) these ∙ ap (λ (o : Option Entry). option_or o (find (λ (entry : Entry). bytes_eq entry.1 name) these)) none.0))
    ∙ first_one (find (λ (entry : Entry). bytes_eq entry.1 name) these) (find (λ (entry : Entry). bytes_eq entry.1 name) (drop at entries)) here
  where
    first_one : (one other : Option Entry) → option_map (λ (entry : Entry). entry.0) one ≡ Some slot → option_map (λ (entry : Entry). entry.0) (option_or one other) ≡ Some slot
    first_one None other h = absurd cc
    first_one (Some entry) other h = h

pub added_slots_hold : AddedSlots
added_slots_hold = record {
  stay = added_stay;
  next = λ values names place h k name here.
      (let new = new_name values names place h k name here in
      placed_slot values.entries (with_slots values.next names) (count_at place values.entries) name (values.next + k) new.unused (nth_slot values.next names k name here new.once));
}

-- ---- DELETE and ADD

gone : (name : List ℕ) (entries : List Entry) → find (λ (entry : Entry). bytes_eq entry.1 name) (others (name ∷ []) entries) ≡ None
gone name [] = refl
gone name (entry ∷ entries) = by (bytes_eq entry.1 name) refl (gone name entries)
  where
    by : (b : Bool) → bytes_eq entry.1 name ≡ b → find (λ (x : Entry). bytes_eq x.1 name) (others (name ∷ []) entries) ≡ None → find (λ (x : Entry). bytes_eq x.1 name) (cond (not (is_among (name ∷ []) entry.1)) (entry ∷ others (name ∷ []) entries) (others (name ∷ []) entries)) ≡ None
    by true e rest = rw (among_one name entry.1 ∙ e) rest
    by false e rest = rw (among_one name entry.1 ∙ e, e) rest

pub new_slot_again_hold : NewSlotAgain
new_slot_again_hold values name place slot valid h =
    let here = found values.entries slot name h in
    let value : Entry = (slot, name) in
    let read = get_or_from_slice_get values.entries here.place value value here.value in
    let below : (slice_index_or values.entries here.place value).0 < values.next = valid.slots_below here.place value (slice_get_within values.entries here.place value here.value) in
    record {
      old = subst (λ (x : Entry). x.0 < values.next) read below;
      new =
          placed_slot (others (name ∷ []) values.entries) (with_slots values.next (name ∷ [])) (count_at place (others (name ∷ []) values.entries)) name values.next
          (ap (option_map (λ (entry : Entry). entry.0)) (gone name values.entries))
          (nth_slot values.next (name ∷ []) zero name refl refl ∙ ap Some (omega arith));
    }

-- ---- MOVE

twice : (b : Bool) → b ≡ not (not b)
twice true = refl
twice false = refl

behind_same : (values : DimensionState) (done names : List (List ℕ)) → ((k : ℕ) (name : List ℕ) → slice_get names k ≡ Some name → is_among (done ++ take k names) name ≡ false) → IsPermutation values.entries (behind_all values done).entries → IsPermutation values.entries (behind_all values (done ++ names)).entries
behind_same values done [] once so = subst (λ (xs : List (List ℕ)). IsPermutation values.entries (behind_all values xs).entries) (sym (append-nil done)) so
behind_same values done (name ∷ names) once so =
    let first : is_among done name ≡ false = ap (λ (xs : List (List ℕ)). is_among xs name) (sym (append-nil done)) ∙ once zero name refl in
    let step : IsPermutation (behind_all values done).entries (others (name ∷ []) (behind_all values done).entries ++ named (behind_all values done).entries name) =
    IsPermutation-filter_both (λ (x : Entry). not (is_among (name ∷ []) x.1)) (λ (x : Entry). bytes_eq x.1 name) (λ x. sym (among_one name x.1) ∙ twice (is_among (name ∷ []) x.1)) (behind_all values done).entries in
    let same : others (name ∷ []) (behind_all values done).entries ++ named (behind_all values done).entries name ≡ (behind_all values (done ++ name ∷ [])).entries = ap (λ (m : DimensionState). m.entries) (behind_more name values done first (behind_all values done) refl) in
    let more = IsPermutation-trans values.entries (behind_all values done).entries (behind_all values (done ++ name ∷ [])).entries so (subst (λ (xs : List Entry). IsPermutation (behind_all values done).entries xs) same step) in
    subst (λ (xs : List (List ℕ)). IsPermutation values.entries (behind_all values xs).entries) (append_assoc done (name ∷ []) names)
    (behind_same values (done ++ name ∷ []) names (λ k other here. ap (λ (xs : List (List ℕ)). is_among xs other) (append_assoc done (name ∷ []) (take k names)) ∙ once (suc k) other here) more)

put_same : (rest these : List Entry) (at : ℕ) → IsPermutation (rest ++ these) (take at rest ++ these ++ drop at rest)
put_same rest these at =
    let swap = IsPermutation-append_right (take at rest) (drop at rest ++ these) (these ++ drop at rest) (IsPermutation-append_comm (drop at rest) these) in
    let from : take at rest ++ (drop at rest ++ these) ≡ rest ++ these = sym (append_assoc (take at rest) (drop at rest) these) ∙ ap (λ (xs : List Entry). xs ++ these) (take-append-drop at rest) in
    let to : take at rest ++ (these ++ drop at rest) ≡ take at rest ++ these ++ drop at rest = sym (append_assoc (take at rest) these (drop at rest)) in
    subst (λ (xs : List Entry). IsPermutation xs (take at rest ++ these ++ drop at rest)) from (subst (λ (xs : List Entry). IsPermutation (take at rest ++ (drop at rest ++ these)) xs) to swap)

moved_same : (values : DimensionState) (names : List (List ℕ)) (place : Place) → moved_cause values names place ≡ None → IsPermutation values.entries (moved values names place).entries
moved_same values names place h =
    let start : IsPermutation values.entries (behind_all values []).entries = subst (λ (xs : List Entry). IsPermutation values.entries xs) (ap (λ (m : DimensionState). m.entries) (behind_none_yet values)) (IsPermutation-refl values.entries) in
    let behind = behind_same values [] names (λ k name here. (old_name values names (names_and_places values names place h).0 k name here).once) start in
    IsPermutation-trans values.entries (behind_all values names).entries (moved values names place).entries behind (put_same (others names values.entries) (in_order names values.entries) (count_at place (others names values.entries)))

-- those that are moved are none of the others
others_again : (names : List (List ℕ)) (entries : List Entry) → others names (others names entries) ≡ others names entries
others_again names [] = refl
others_again names (entry ∷ entries) = by (is_among names entry.1) refl (others_again names entries)
  where
    by : (b : Bool) → is_among names entry.1 ≡ b → others names (others names entries) ≡ others names entries → others names (cond (not b) (entry ∷ others names entries) (others names entries)) ≡ cond (not b) (entry ∷ others names entries) (others names entries)
    by true e rest = rest
    by false e rest = rw e (ap (λ (xs : List Entry). entry ∷ xs) rest)

none_moved : (all names : List (List ℕ)) (entries : List Entry) → ((k : ℕ) (name : List ℕ) → slice_get names k ≡ Some name → is_among all name ≡ true) → others all (in_order names entries) ≡ []
none_moved all [] entries among = refl
none_moved all (name ∷ names) entries among =
    filter-append (λ (x : Entry). not (is_among all x.1)) (named entries name) (in_order names entries)
    ∙ ap (λ (xs : List Entry). xs ++ others all (in_order names entries)) (none entries)
    ∙ none_moved all names entries (λ k. among (suc k))
  where
    none : (entries : List Entry) → others all (named entries name) ≡ []
    none [] = refl
    none (entry ∷ entries) = by (bytes_eq entry.1 name) refl (none entries)
      where
        by : (b : Bool) → bytes_eq entry.1 name ≡ b → others all (named entries name) ≡ [] → others all (cond b (entry ∷ named entries name) (named entries name)) ≡ []
        by false e rest = rest
        by true e rest = rw (ap (is_among all) ((bytes_eq-Decides entry.1 name).0 e) ∙ among zero name refl) rest

moved_rest : (values : DimensionState) (names : List (List ℕ)) (place : Place) → others names (moved values names place).entries ≡ others names values.entries
moved_rest values names place = put (count_at place (others names values.entries)) (others names values.entries) (in_order names values.entries) (others_again names values.entries) (none_moved names names values.entries (member names))
  where
    put : (at : ℕ) (rest these : List Entry) → others names rest ≡ rest → others names these ≡ [] → others names (take at rest ++ these ++ drop at rest) ≡ rest
    put at rest these again none =
        let kept = others_kept names at rest again in
        filter-append (λ (x : Entry). not (is_among names x.1)) (take at rest ++ these) (drop at rest)
        ∙ ap (λ (xs : List Entry). xs ++ others names (drop at rest)) (filter-append (λ (x : Entry). not (is_among names x.1)) (take at rest) these ∙ ap (λ (xs : List Entry). xs ++ others names these) kept.0 ∙ ap (λ (xs : List Entry). take at rest ++ xs) none ∙ append-nil (take at rest))
        ∙ ap (λ (xs : List Entry). take at rest ++ xs) kept.1
        ∙ take-append-drop at rest

pub moved_slots_hold : MovedSlots
moved_slots_hold = record { same = moved_same; rest = moved_rest }

-- ---- RENAME

pub renamed_slots_hold : RenamedSlots
renamed_slots_hold values old new = slots values.entries
  where
    slots : (entries : List Entry) → map (λ (entry : Entry). entry.0) (map (renamed_entry old new) entries) ≡ map (λ (entry : Entry). entry.0) entries
    slots [] = refl
    slots (entry ∷ entries) = ap (λ (xs : List ℕ). entry.0 ∷ xs) (slots entries)
