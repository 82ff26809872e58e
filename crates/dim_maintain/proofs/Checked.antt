-- What it says of a list of names that there is no cause.
use Rattle.std.proofs.Common.{ℕ, zero, suc, Bool, true, false, cond, not, ◌||◌, ◌==◌, ◌≡◌, ◌≢◌, ◌+◌, ◌≤◌, ◌<◌, List, [], ◌∷◌, ◌++◌, length, take, slice_get, slice_index_or, nat_lt, Some, None, Option, is_some, refl, sym, ◌∙◌, ap, append-nil, append_assoc}
use Rattle.std.specs.Option.{option_or}
use Rattle.std.proofs.lemmas.Bool.{ltb-false}
use Rattle.std.proofs.lemmas.List.{take_more}
use Rattle.std.proofs.lemmas.Option.{slice_get_read}
use Rattle.std.proofs.lemmas.Bool.Decides.{Decides-eqb}
use Rattle.aw_dim.specs.DimensionState.{DimensionState, slot_of}
use Rattle.dml_tree.specs.declared.statement.Place.{Place}
use Rattle.dim_maintain.specs.declared.fault.MaintainFault.{MaintainFault}
use Rattle.dim_maintain.specs.declared.fault.MaintainFault.TheVariants.{NoValue, Repeated, Full}
use Rattle.dim_maintain.specs.Maintained.{is_among}
use Rattle.dim_maintain.specs.Causes.{first_cause, new_cause, old_cause, place_cause, own_place_cause, full_cause, added_cause, moved_cause, is_value}

pub neither : {X : Type 0} (a b : Option X) → option_or a b ≡ None → (a ≡ None) × (b ≡ None)
neither None b h = (refl, h)
neither (Some x) b h = absurd cc

-- nothing is said of any of the names, each behind those before it
pub none_of : (cause : List (List ℕ) → List ℕ → Option MaintainFault) (earlier names : List (List ℕ)) → first_cause cause earlier names ≡ None → (k : ℕ) (name : List ℕ) → slice_get names k ≡ Some name → cause (earlier ++ take k names) name ≡ None
none_of cause earlier [] h k name g = absurd cc
none_of cause earlier (first ∷ names) h zero name g =
    let same : first ≡ name = cc in
    ap (λ (e : List (List ℕ)). cause e name) (append-nil earlier) ∙ ap (cause earlier) (sym same) ∙ (neither (cause earlier first) (first_cause cause (earlier ++ first ∷ []) names) h).0
none_of cause earlier (first ∷ names) h (suc k) name g =
    ap (λ (e : List (List ℕ)). cause e name) (sym (append_assoc earlier (first ∷ []) (take k names)))
    ∙ none_of cause (earlier ++ first ∷ []) names (neither (cause earlier first) (first_cause cause (earlier ++ first ∷ []) names) h).1 k name g

-- a new name isn't empty, no value has it, and it wasn't written before
pub record IsNew (values : DimensionState) (earlier : List (List ℕ)) (name : List ℕ) : Type 0 where
  pub named : name ≢ []
  pub unused : slot_of values name ≡ None
  pub once : is_among earlier name ≡ false

pub is_new : (values : DimensionState) (earlier : List (List ℕ)) (name : List ℕ) → new_cause values earlier name ≡ None → IsNew values earlier name
is_new values earlier name h = by (length name == 0) refl (slot_of values name) refl (is_among earlier name) refl h
  where
    by : (empty : Bool) → (length name == 0) ≡ empty → (slot : Option ℕ) → slot_of values name ≡ slot → (among : Bool) → is_among earlier name ≡ among → cond empty (Some (NoValue name)) (cond (is_some slot || among) (Some (Repeated name)) None) ≡ None → IsNew values earlier name
    by true d slot e among f h = absurd cc
    by false d (Some slot) e among f h = absurd cc
    by false d None e true f h = absurd cc
    by false d None e false f h =
        record {
          named = λ empty. (let yes : (length name == 0) ≡ true = (Decides-eqb (length name) 0).1 (ap (λ (xs : List ℕ). length xs) empty) in let both : true ≡ false = sym yes ∙ d in absurd cc);
          unused = e;
          once = f;
        }

-- the name of a value is known, and wasn't written before
pub record IsOld (values : DimensionState) (earlier : List (List ℕ)) (name : List ℕ) : Type 0 where
  pub known : is_value values name ≡ true
  pub once : is_among earlier name ≡ false

pub is_old : (values : DimensionState) (earlier : List (List ℕ)) (name : List ℕ) → old_cause values earlier name ≡ None → IsOld values earlier name
is_old values earlier name h = by (is_value values name) refl (is_among earlier name) refl h
  where
    by : (known : Bool) → is_value values name ≡ known → (among : Bool) → is_among earlier name ≡ among → cond (not known) (Some (NoValue name)) (cond among (Some (Repeated name)) None) ≡ None → IsOld values earlier name
    by false e among f h = absurd cc
    by true e true f h = absurd cc
    by true e false f h = record { known = e; once = f }

pub few_slots : (values : DimensionState) (count : ℕ) → full_cause values count ≡ None → values.next + count ≤ 65536
few_slots values count h = by (nat_lt 65536 (values.next + count)) refl h
  where
    by : (b : Bool) → nat_lt 65536 (values.next + count) ≡ b → cond b (Some Full) None ≡ None → values.next + count ≤ 65536
    by true e h = absurd cc
    by false e h = ltb-false 65536 (values.next + count) e

-- ---- the names one after the other

-- the name at a place is the next one
pub next_name : (names : List (List ℕ)) (k : ℕ) (name : List ℕ) → k < length names → name ≡ slice_index_or names k name → (slice_get names k ≡ Some name) × (take (k + 1) names ≡ take k names ++ name ∷ [])
next_name names k name h e = (slice_get_read names (length names) k name refl h e, take_more names k name h ∙ ap (λ (n : List ℕ). take k names ++ n ∷ []) (sym e))

pub new_name : (values : DimensionState) (names : List (List ℕ)) (place : Place) → added_cause values names place ≡ None → (k : ℕ) (name : List ℕ) → slice_get names k ≡ Some name → IsNew values (take k names) name
new_name values names place h k name here =
    is_new values (take k names) name (none_of (new_cause values) [] names (neither (first_cause (new_cause values) [] names) (option_or (place_cause values place) (full_cause values (length names))) h).0 k name here)

pub old_name : (values : DimensionState) (names : List (List ℕ)) → first_cause (old_cause values) [] names ≡ None → (k : ℕ) (name : List ℕ) → slice_get names k ≡ Some name → IsOld values (take k names) name
old_name values names h k name here = is_old values (take k names) name (none_of (old_cause values) [] names h k name here)

-- what else is known where nothing refuses an addition
pub place_and_room : (values : DimensionState) (names : List (List ℕ)) (place : Place) → added_cause values names place ≡ None → (place_cause values place ≡ None) × (values.next + length names ≤ 65536)
place_and_room values names place h =
    let rest = (neither (first_cause (new_cause values) [] names) (option_or (place_cause values place) (full_cause values (length names))) h).1 in
    let both = neither (place_cause values place) (full_cause values (length names)) rest in
    (both.0, few_slots values (length names) both.1)

-- and a move
pub names_and_places : (values : DimensionState) (names : List (List ℕ)) (place : Place) → moved_cause values names place ≡ None → (first_cause (old_cause values) [] names ≡ None) × (place_cause values place ≡ None) × (own_place_cause names place ≡ None)
names_and_places values names place h =
    let all = neither (first_cause (old_cause values) [] names) (option_or (place_cause values place) (own_place_cause names place)) h in
    let both = neither (place_cause values place) (own_place_cause names place) all.1 in
    (all.0, both.0, both.1)
