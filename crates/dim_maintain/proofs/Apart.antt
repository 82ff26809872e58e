-- In the value of a dimension a name and its slot tell the same value.
use Rattle.std.proofs.Common.{ℕ, zero, suc, Bool, true, false, cond, ◌==◌, ◌≡◌, ◌<◌, List, [], ◌∷◌, length, slice_get, Some, None, option_map, is_some, is_ok, Result, Ok, Err, OnOk, filter, map, find, bytes_eq, refl, sym, ◌∙◌, ap, inl, inr}
use Rattle.std.proofs.lemmas.Bool.{cases_order}
use Rattle.std.proofs.lemmas.Bool.Decides.{Decides-eqb}
use Rattle.std.proofs.lemmas.Option.{slice_get_within, get_or_from_slice_get}
use Rattle.std.proofs.lemmas.Slice.Eq.{bytes_eq-Decides}
use Rattle.aw_dim.specs.DimensionState.{Entry, DimensionState, IsDimension}

pub same_bool : (a b : Bool) → (a ≡ true → b ≡ true) → (b ≡ true → a ≡ true) → a ≡ b
same_bool true b f g = sym (f refl)
same_bool false true f g = g refl
same_bool false false f g = refl

pub bytes_false : (one other : List ℕ) → (one ≡ other → ⊥) → bytes_eq one other ≡ false
bytes_false one other ne = same_bool (bytes_eq one other) false (λ e. absurd (ne ((bytes_eq-Decides one other).0 e))) (λ e. absurd cc)

pub bytes_sym : (one other : List ℕ) → bytes_eq one other ≡ bytes_eq other one
bytes_sym one other =
    same_bool (bytes_eq one other) (bytes_eq other one)
    (λ e. (bytes_eq-Decides other one).1 (sym ((bytes_eq-Decides one other).0 e)))
    (λ e. (bytes_eq-Decides one other).1 (sym ((bytes_eq-Decides other one).0 e)))

-- ---- tests that agree on the elements of a list

module _ {X : Type 0} where
  pub filter_on : (p q : X → Bool) (xs : List X) → ((k : ℕ) (x : X) → slice_get xs k ≡ Some x → p x ≡ q x) → filter p xs ≡ filter q xs
  filter_on p q [] h = refl
  filter_on p q (x ∷ xs) h = rw (h zero x refl) (ap (λ (ys : List X). cond (q x) (x ∷ ys) ys) (filter_on p q xs (λ k. h (suc k))))

  pub map_on : (f g : X → X) (xs : List X) → ((k : ℕ) (x : X) → slice_get xs k ≡ Some x → f x ≡ g x) → map f xs ≡ map g xs
  map_on f g [] h = refl
  map_on f g (x ∷ xs) h = rw (h zero x refl) (ap (λ (ys : List X). g x ∷ ys) (map_on f g xs (λ k. h (suc k))))

  pub filter_every : (p : X → Bool) (xs : List X) → ((k : ℕ) (x : X) → slice_get xs k ≡ Some x → p x ≡ true) → filter p xs ≡ xs
  filter_every p [] h = refl
  filter_every p (x ∷ xs) h = rw (h zero x refl) (ap (λ (ys : List X). x ∷ ys) (filter_every p xs (λ k. h (suc k))))

  pub filter_none : (p : X → Bool) (xs : List X) → ((k : ℕ) (x : X) → slice_get xs k ≡ Some x → p x ≡ false) → filter p xs ≡ []
  filter_none p [] h = refl
  filter_none p (x ∷ xs) h = rw (h zero x refl) (filter_none p xs (λ k. h (suc k)))

-- ---- a value under its name

-- the value with this name has this slot
pub record Found (entries : List Entry) (slot : ℕ) (name : List ℕ) : Type 0 where
  pub place : ℕ
  pub value : slice_get entries place ≡ Some (slot, name)

pub found : (entries : List Entry) (slot : ℕ) (name : List ℕ) → option_map (λ (entry : Entry). entry.0) (find (λ (entry : Entry). bytes_eq entry.1 name) entries) ≡ Some slot → Found entries slot name
found [] slot name h = absurd cc
found (entry ∷ entries) slot name h = by (bytes_eq entry.1 name) refl (found entries slot name) h
  where
    by : (b : Bool) → bytes_eq entry.1 name ≡ b → (option_map (λ (e : Entry). e.0) (find (λ (e : Entry). bytes_eq e.1 name) entries) ≡ Some slot → Found entries slot name) → option_map (λ (e : Entry). e.0) (cond b (Some entry) (find (λ (e : Entry). bytes_eq e.1 name) entries)) ≡ Some slot → Found (entry ∷ entries) slot name
    by true e more g =
        let n : entry.1 ≡ name = (bytes_eq-Decides entry.1 name).0 e in
        let s : entry.0 ≡ slot = cc in
        let same : entry ≡ (slot, name) = λ i. (s i, n i) in
        record { place = zero; value = ap Some same }
    by false e more g = let rest = more g in record { place = suc rest.place; value = rest.value }

pub unfound : (entries : List Entry) (name : List ℕ) → option_map (λ (entry : Entry). entry.0) (find (λ (entry : Entry). bytes_eq entry.1 name) entries) ≡ None → (k : ℕ) (x : Entry) → slice_get entries k ≡ Some x → bytes_eq x.1 name ≡ false
unfound [] name h k x g = absurd cc
unfound (entry ∷ entries) name h k x g = by (bytes_eq entry.1 name) refl (unfound entries name) h k x g
  where
    by : (b : Bool) → bytes_eq entry.1 name ≡ b → (option_map (λ (e : Entry). e.0) (find (λ (e : Entry). bytes_eq e.1 name) entries) ≡ None → (k : ℕ) (x : Entry) → slice_get entries k ≡ Some x → bytes_eq x.1 name ≡ false) → option_map (λ (e : Entry). e.0) (cond b (Some entry) (find (λ (e : Entry). bytes_eq e.1 name) entries)) ≡ None → (k : ℕ) (x : Entry) → slice_get (entry ∷ entries) k ≡ Some x → bytes_eq x.1 name ≡ false
    by true e more n k x h = absurd cc
    by false e more n zero x h = let same : entry ≡ x = cc in ap (λ (y : Entry). bytes_eq y.1 name) (sym same) ∙ e
    by false e more n (suc k) x h = more n k x h

-- ---- slots and names tell values apart

module _ (values : DimensionState) (valid : IsDimension values) where
  at : (k : ℕ) (x : Entry) → slice_get values.entries k ≡ Some x → k < length values.entries
  at k x h = slice_get_within values.entries k x h

  pub one_slot : (i j : ℕ) (x y : Entry) → slice_get values.entries i ≡ Some x → slice_get values.entries j ≡ Some y → x.0 ≡ y.0 → i ≡ j
  one_slot i j x y g h e =
      let gx = get_or_from_slice_get values.entries i x x g in
      let hy = get_or_from_slice_get values.entries j y x h in
      elim (cases_order i j) [
        | inl same ↦ same
        | inr apart ↦ elim apart [
          | inl less ↦ absurd (valid.slots_differ i j x less (at j y h) (ap (λ (v : Entry). v.0) gx ∙ e ∙ sym (ap (λ (v : Entry). v.0) hy)))
          | inr more ↦ absurd (valid.slots_differ j i x more (at i x g) (ap (λ (v : Entry). v.0) hy ∙ sym e ∙ sym (ap (λ (v : Entry). v.0) gx)))
        ]
      ]

  pub one_name : (i j : ℕ) (x y : Entry) → slice_get values.entries i ≡ Some x → slice_get values.entries j ≡ Some y → x.1 ≡ y.1 → i ≡ j
  one_name i j x y g h e =
      let gx = get_or_from_slice_get values.entries i x x g in
      let hy = get_or_from_slice_get values.entries j y x h in
      elim (cases_order i j) [
        | inl same ↦ same
        | inr apart ↦ elim apart [
          | inl less ↦ absurd (valid.names_differ i j x less (at j y h) (ap (λ (v : Entry). v.1) gx ∙ e ∙ sym (ap (λ (v : Entry). v.1) hy)))
          | inr more ↦ absurd (valid.names_differ j i x more (at i x g) (ap (λ (v : Entry). v.1) hy ∙ sym e ∙ sym (ap (λ (v : Entry). v.1) gx)))
        ]
      ]

  same_at : (i j : ℕ) (x y : Entry) → slice_get values.entries i ≡ Some x → slice_get values.entries j ≡ Some y → i ≡ j → x ≡ y
  same_at i j x y g h e = let s : Some x ≡ Some y = sym g ∙ ap (slice_get values.entries) e ∙ h in cc

  -- the value with the slot is the one with the name
  pub agree : (slot : ℕ) (name : List ℕ) → Found values.entries slot name → (k : ℕ) (x : Entry) → slice_get values.entries k ≡ Some x → (x.0 == slot) ≡ bytes_eq x.1 name
  agree slot name here k x h =
      let value : Entry = (slot, name) in
      same_bool (x.0 == slot) (bytes_eq x.1 name)
      (λ yes.
      let same : x ≡ value = same_at k here.place x value h here.value (one_slot k here.place x value h here.value ((Decides-eqb x.0 slot).0 yes)) in
      (bytes_eq-Decides x.1 name).1 (ap (λ (v : Entry). v.1) same))
      (λ yes.
      let same : x ≡ value = same_at k here.place x value h here.value (one_name k here.place x value h here.value ((bytes_eq-Decides x.1 name).0 yes)) in
      (Decides-eqb x.0 slot).1 (ap (λ (v : Entry). v.0) same))

-- a value under a name has its slot
pub has_slot : (entries : List Entry) (slot : ℕ) (name : List ℕ) (place : ℕ) → slice_get entries place ≡ Some (slot, name) → is_some (option_map (λ (entry : Entry). entry.1) (find (λ (entry : Entry). entry.0 == slot) entries)) ≡ true
has_slot [] slot name place h = absurd cc
has_slot (entry ∷ entries) slot name zero h =
    let same : entry ≡ (slot, name) = cc in
    ap (λ (b : Bool). is_some (option_map (λ (e : Entry). e.1) (cond b (Some entry) (find (λ (e : Entry). e.0 == slot) entries)))) ((Decides-eqb entry.0 slot).1 (ap (λ (e : Entry). e.0) same))
has_slot (entry ∷ entries) slot name (suc place) h = by (entry.0 == slot) (has_slot entries slot name place h)
  where
    by : (b : Bool) → is_some (option_map (λ (e : Entry). e.1) (find (λ (e : Entry). e.0 == slot) entries)) ≡ true → is_some (option_map (λ (e : Entry). e.1) (cond b (Some entry) (find (λ (e : Entry). e.0 == slot) entries))) ≡ true
    by true more = refl
    by false more = more

-- what is known of an answer that isn't refused
pub on_ok : {T E P : Type 0} (result : Result T E) → is_ok result ≡ true → OnOk result P → P
on_ok (Ok value) is holds = holds
on_ok (Err fault) is holds = absurd cc
