-- Places and names of values that are there.
use Rattle.std.proofs.Common.{ℕ, zero, suc, Bool, true, false, cond, not, ◌≡◌, ◌+◌, ◌≤◌, ◌<◌, List, [], ◌∷◌, length, take, slice_get, Some, None, Option, option_map, is_some, find, bytes_eq, refl, sym, ◌∙◌, ap, arith}
use Rattle.std.proofs.lemmas.List.{length-append, take_all}
use Rattle.std.proofs.lemmas.Slice.Eq.{bytes_eq-Decides}
use Rattle.aw_dim.specs.DimensionState.{Entry, DimensionState, IsDimension}
use Rattle.dml_tree.specs.declared.statement.Place.{Place}
use Rattle.dml_tree.specs.declared.statement.Place.TheVariants.{First, Last, Before, After}
use Rattle.dim_maintain.specs.declared.fault.MaintainFault.TheVariants.{NoValue, Repeated}
use Rattle.dim_maintain.specs.Maintained.{is_among, others, named, in_order, count_before, count_at}
use Rattle.dim_maintain.specs.Causes.{added_cause, place_cause, own_place_cause, is_value}
use Rattle.dim_maintain.proofs.Checked.{place_and_room}
use Rattle.dim_maintain.proofs.Apart.{bytes_false, filter_none, one_name}

module _ (name : List ℕ) where
  abbrev has : Entry → Bool
  has x = bytes_eq x.1 name

  counted : (entries : List Entry) → count_before name entries ≤ length entries
  counted [] = omega arith
  counted (entry ∷ entries) = by (has entry) (counted entries)
    where
      by : (b : Bool) → count_before name entries ≤ length entries → cond (not b) (1 + count_before name entries) 0 ≤ suc (length entries)
      by true h = omega arith
      by false h = omega (arith, h)

  counted_known : (entries : List Entry) → is_some (option_map (λ (entry : Entry). entry.0) (find has entries)) ≡ true → count_before name entries < length entries
  counted_known [] h = absurd cc
  counted_known (entry ∷ entries) h = by (has entry) (counted_known entries) h
    where
      by : (b : Bool) → (is_some (option_map (λ (e : Entry). e.0) (find has entries)) ≡ true → count_before name entries < length entries) → is_some (option_map (λ (e : Entry). e.0) (cond b (Some entry) (find has entries))) ≡ true → cond (not b) (1 + count_before name entries) 0 < suc (length entries)
      by true more h = omega arith
      by false more h = let less = more h in omega (arith, less)

  -- a name that isn't among some names is found without their values too
  left_over : (names : List (List ℕ)) (entries : List Entry) → is_among names name ≡ false → find has (others names entries) ≡ find has entries
  left_over names [] once = refl
  left_over names (entry ∷ entries) once = by (has entry) refl (is_among names entry.1) refl (left_over names entries once)
    where
      by : (b : Bool) → has entry ≡ b → (gone : Bool) → is_among names entry.1 ≡ gone → find has (others names entries) ≡ find has entries → find has (cond (not gone) (entry ∷ others names entries) (others names entries)) ≡ cond b (Some entry) (find has entries)
      by true e true f more = (let both : true ≡ false = sym f ∙ ap (is_among names) ((bytes_eq-Decides entry.1 name).0 e) ∙ once in absurd cc)
      by true e false f more = ap (λ (b : Bool). cond b (Some entry) (find has (others names entries))) e
      by false e true f more = more
      by false e false f more = ap (λ (b : Bool). cond b (Some entry) (find has (others names entries))) e ∙ more

  one_there : (entries : List Entry) → ((i j : ℕ) (x y : Entry) → slice_get entries i ≡ Some x → slice_get entries j ≡ Some y → x.1 ≡ y.1 → i ≡ j) → is_some (option_map (λ (entry : Entry). entry.0) (find has entries)) ≡ true → length (named entries name) ≡ 1
  one_there [] apart h = absurd cc
  one_there (entry ∷ entries) apart h = by (has entry) refl (one_there entries (λ i j x y f g e. let n = apart (suc i) (suc j) x y f g e in omega (arith, n))) h
    where
      by : (b : Bool) → has entry ≡ b → (is_some (option_map (λ (e : Entry). e.0) (find has entries)) ≡ true → length (named entries name) ≡ 1) → is_some (option_map (λ (e : Entry). e.0) (cond b (Some entry) (find has entries))) ≡ true → length (cond b (entry ∷ named entries name) (named entries name)) ≡ 1
      by true e more h =
          let none = filter_none has entries (λ k x g. bytes_false x.1 name (λ same. (let n = apart zero (suc k) entry x refl g ((bytes_eq-Decides entry.1 name).0 e ∙ sym same) in absurd (omega (arith, n))))) in
          ap (λ (xs : List Entry). suc (length xs)) none
      by false e more h = more h

-- ---- each name has one value

pub length-in_order : (values : DimensionState) → IsDimension values → (names : List (List ℕ)) → ((k : ℕ) (name : List ℕ) → slice_get names k ≡ Some name → is_value values name ≡ true) → length (in_order names values.entries) ≡ length names
length-in_order values valid [] known = refl
length-in_order values valid (name ∷ names) known =
    length-append (named values.entries name) (in_order names values.entries)
    ∙ ap (λ (n : ℕ). n + length (in_order names values.entries)) (one_there name values.entries (one_name values valid) (known zero name refl))
    ∙ (let more = length-in_order values valid names (λ k. known (suc k)) in omega (arith, more))

-- ---- places

known_or : (b : Bool) (name : List ℕ) → cond b None (Some (NoValue name)) ≡ None → b ≡ true
known_or true name h = refl
known_or false name h = absurd cc

own_or : (b : Bool) (name : List ℕ) → cond b (Some (Repeated name)) None ≡ None → b ≡ false
own_or true name h = absurd cc
own_or false name h = refl

-- a place by a value that is there is at most behind the last
pub place_within : (values : DimensionState) (place : Place) → place_cause values place ≡ None → count_at place values.entries ≤ length values.entries
place_within values First h = omega arith
place_within values Last h = omega arith
place_within values (Before name) h = counted name values.entries
place_within values (After name) h = let less = counted_known name values.entries (known_or (is_value values name) name h) in omega (arith, less)

pub place_in : (values : DimensionState) (names : List (List ℕ)) (place : Place) → added_cause values names place ≡ None → (count : ℕ) → count ≡ length values.entries → count_at place (take count values.entries) ≤ length values.entries
place_in values names place accepted count e =
    let most = place_within values place (place_and_room values names place accepted).0 in
    let all : count_at place (take count values.entries) ≡ count_at place values.entries = ap (count_at place) (take_all count values.entries (omega (arith, e))) in
    omega (arith, most, all)

-- so is one among the values that aren't moved
pub place_among_others : (values : DimensionState) (names : List (List ℕ)) (place : Place) → place_cause values place ≡ None → own_place_cause names place ≡ None → count_at place (others names values.entries) ≤ length (others names values.entries)
place_among_others values names First h own = omega arith
place_among_others values names Last h own = omega arith
place_among_others values names (Before name) h own = counted name (others names values.entries)
place_among_others values names (After name) h own =
    let there : is_some (option_map (λ (entry : Entry). entry.0) (find (has name) (others names values.entries))) ≡ true =
    ap (λ (found : Option Entry). is_some (option_map (λ (entry : Entry). entry.0) found)) (left_over name names values.entries (own_or (is_among names name) name own)) ∙ known_or (is_value values name) name h in
    let less = counted_known name (others names values.entries) there in
    omega (arith, less)
