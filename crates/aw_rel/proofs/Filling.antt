-- The tables of a hierarchy as they are filled, and a climb that clears values.
use Rattle.std.proofs.Common.{◌≡◌, ◌≢◌, ℕ, zero, suc, ◌+◌, ◌<◌, ◌≤◌, Bool, true, false, cond, ◌||◌, ◌==◌, ◌⊎◌, inl, inr, List, [], ◌∷◌, ◌++◌, length, take, replicate, slice_get, slice_set, get_or, Option, Some, None, refl, sym, ap, subst, ◌∙◌, arith}
use Rattle.std.specs.List.{filter}
use Rattle.std.proofs.lemmas.Bool.Decides.{Decides-eqb}
use Rattle.std.proofs.lemmas.List.{get_or-set_same, get_or-set_other, take_more}
use Rattle.std.proofs.lemmas.List.Elements.{filter-append}
use Rattle.std.proofs.lemmas.Option.{slice_get_within, slice_get-get_or}
use Rattle.std.proofs.Math.ListN.{length-set}
use Rattle.aw_rel.specs.Hierarchy.{is_among, is_slot}
use Rattle.aw_rel.specs.inside.Tables.{parent_at, children_at, has_none, AreParents, AreChildren, children_among, AreKin}
use Rattle.aw_rel.specs.inside.Clearing.{is_cleared, IsFront, IsSettled, IsClearing, IsClimbing}
use Rattle.aw_rel.proofs.Steps.{or_right, or_left, same_number}
use Rattle.aw_rel.proofs.WhatIsLeft.{among_at}

other_number : (a b : ℕ) → (a == b) ≡ false → a ≢ b
other_number a b h e = let t = (Decides-eqb a b).1 e in cc

pub among-push : (xs : List ℕ) (x q : ℕ) → is_among (xs ++ x ∷ []) q ≡ ((q == x) || is_among xs q)
among-push [] x q = refl
among-push (y ∷ xs) x q = ap (λ b. (q == y) || b) (among-push xs x q) ∙ swapped (q == y) (q == x) (is_among xs q)
  where
    swapped : (a b c : Bool) → (a || (b || c)) ≡ (b || (a || c))
    swapped true true c = refl
    swapped true false c = refl
    swapped false b c = refl

pub among-more : (xs : List ℕ) (i x q : ℕ) → i < length xs → x ≡ get_or xs i 0 → is_among (take (i + 1) xs) q ≡ ((q == x) || is_among (take i xs) q)
among-more xs i x q within is = ap (λ (l : List ℕ). is_among l q) (take_more xs i 0 within ∙ ap (λ n. take i xs ++ n ∷ []) (sym is)) ∙ among-push (take i xs) x q

pub at_index : (xs : List ℕ) (i x : ℕ) → i < length xs → x ≡ get_or xs i 0 → is_among xs x ≡ true
at_index xs i x within is = among_at xs i x (slice_get-get_or xs i 0 within ∙ ap (λ (n : ℕ). Some n) (sym is))

-- a value at a slot of a table
pub read-set : {A : Type 0} (table : List A) (slot q : ℕ) (value other : A) → slot < length table → get_or (slice_set table slot value) q other ≡ cond (q == slot) value (get_or table q other)
read-set table slot q value other within =
    elim (q == slot) as (λ b. (q == slot) ≡ b → get_or (slice_set table slot value) q other ≡ cond b value (get_or table q other)) [
      | true ↦ λ t. ap (λ n. get_or (slice_set table slot value) n other) (same_number q slot t) ∙ get_or-set_same table slot value other within
      | false ↦ λ t. get_or-set_other table slot q value other (other_number q slot t)
    ] refl

-- one more parent
pub AreParents-more : (parent : ℕ → Option ℕ) (slots : List ℕ) (i slot : ℕ) (table : List (Option ℕ)) → i < length slots → slot ≡ get_or slots i 0 → slot < length table → AreParents parent (take i slots) table →
    AreParents parent (take (i + 1) slots) (slice_set table slot (parent slot))
AreParents-more parent slots i slot table within is room are = λ q.
    read-set table slot q (parent slot) None room
    ∙ ap (λ o. cond (q == slot) (parent slot) o) (are q)
    ∙ elim (q == slot) as (λ b. (q == slot) ≡ b → cond b (parent slot) (cond (is_among (take i slots) q) (parent q) None) ≡ cond (b || is_among (take i slots) q) (parent q) None) [
      | true ↦ λ t. ap parent (sym (same_number q slot t))
      | false ↦ λ _. refl
    ] refl
    ∙ ap (λ b. cond b (parent q) None) (sym (among-more slots i slot q within is))

-- no parent stands in a new table
pub AreParents-none : (parent : ℕ → Option ℕ) (slots : List ℕ) (room : ℕ) → AreParents parent (take 0 slots) (replicate room None)
AreParents-none parent slots room = λ q. blank room q
  where
    blank : (room q : ℕ) → parent_at (replicate room None) q ≡ None
    blank zero q = refl
    blank (suc room) zero = refl
    blank (suc room) (suc q) = blank room q

-- one more child
pub children-more : (parents : List (Option ℕ)) (slots : List ℕ) (i slot q : ℕ) → i < length slots → slot ≡ get_or slots i 0 →
    children_among parents (take (i + 1) slots) q ≡ children_among parents (take i slots) q ++ cond (is_slot q (parent_at parents slot)) (slot ∷ []) []
children-more parents slots i slot q within is =
    ap (filter (λ child. is_slot q (parent_at parents child))) (take_more slots i 0 within ∙ ap (λ n. take i slots ++ n ∷ []) (sym is))
    ∙ filter-append (λ child. is_slot q (parent_at parents child)) (take i slots) (slot ∷ [])

append-none : (xs : List ℕ) → xs ++ [] ≡ xs
append-none [] = refl
append-none (x ∷ xs) = ap (λ (l : List ℕ). x ∷ l) (append-none xs)

pub AreChildren-none : (parents : List (Option ℕ)) (slots : List ℕ) (i slot : ℕ) (table : List (List ℕ)) → i < length slots → slot ≡ get_or slots i 0 → parent_at parents slot ≡ None → AreChildren parents (take i slots) table → AreChildren parents (take (i + 1) slots) table
AreChildren-none parents slots i slot table within is none are = λ q.
    are q ∙ sym (children-more parents slots i slot q within is ∙ ap (λ o. children_among parents (take i slots) q ++ cond (is_slot q o) (slot ∷ []) []) none ∙ append-none (children_among parents (take i slots) q))

pub AreChildren-more : (parents : List (Option ℕ)) (slots : List ℕ) (i slot above : ℕ) (table : List (List ℕ)) → i < length slots → slot ≡ get_or slots i 0 → parent_at parents slot ≡ Some above → above < length table →
    AreChildren parents (take i slots) table → AreChildren parents (take (i + 1) slots) (slice_set table above (children_at table above ++ slot ∷ []))
AreChildren-more parents slots i slot above table within is parent room are = λ q.
    read-set table above q (children_at table above ++ slot ∷ []) [] room
    ∙ elim (q == above) as (λ b. (q == above) ≡ b → cond b (children_at table above ++ slot ∷ []) (children_at table q) ≡ children_among parents (take i slots) q ++ cond b (slot ∷ []) []) [
      | true ↦ λ t. let same = same_number q above t in
          ap (λ n. children_at table n ++ slot ∷ []) (sym same) ∙ ap (λ (l : List ℕ). l ++ slot ∷ []) (are q)
      | false ↦ λ _. are q ∙ sym (append-none (children_among parents (take i slots) q))
    ] refl
    ∙ sym (children-more parents slots i slot q within is ∙ ap (λ o. children_among parents (take i slots) q ++ cond (is_slot q o) (slot ∷ []) []) parent)

pub AreChildren-start : (parents : List (Option ℕ)) (slots : List ℕ) (room : ℕ) → AreChildren parents (take 0 slots) (replicate room [])
AreChildren-start parents slots room = λ q. blank room q
  where
    blank : (room q : ℕ) → children_at (replicate room []) q ≡ []
    blank zero q = refl
    blank (suc room) zero = refl
    blank (suc room) (suc q) = blank room q

-- so many aren't cleared
abbrev pub uncleared : List Bool → ℕ
uncleared [] = 0
uncleared (b ∷ cleared) = cond b 0 1 + uncleared cleared

pub uncleared-set : (cleared : List Bool) (slot : ℕ) → slot < length cleared → is_cleared cleared slot ≡ false → uncleared (slice_set cleared slot true) < uncleared cleared
uncleared-set [] slot within out = absurd (omega (arith, within))
uncleared-set (b ∷ cleared) zero within out = let one : ◌≡◌ {A = ℕ} (cond b 0 1) 1 = ap (λ c. cond c 0 1) out in omega (arith, one)
uncleared-set (b ∷ cleared) (suc slot) within out = let rest = uncleared-set cleared slot (omega (arith, within)) out in omega (arith, rest)

-- what is cleared stays so
cleared-more : (cleared : List Bool) (slot q : ℕ) → slot < length cleared → is_cleared cleared q ≡ true → is_cleared (slice_set cleared slot true) q ≡ true
cleared-more cleared slot q within h =
    read-set cleared slot q true false within
    ∙ elim (q == slot) as (λ b. cond b true (is_cleared cleared q) ≡ true) [ true ↦ refl | false ↦ h ]

cleared-here : (cleared : List Bool) (slot : ℕ) → slot < length cleared → is_cleared (slice_set cleared slot true) slot ≡ true
cleared-here cleared slot within = get_or-set_same cleared slot true false within

-- a value that is cleared now, or was
cleared-cases : {P : Type 0} (cleared : List Bool) (slot q : ℕ) → slot < length cleared → is_cleared (slice_set cleared slot true) q ≡ true → (q ≡ slot → P) → (is_cleared cleared q ≡ true → P) → P
cleared-cases {P} cleared slot q within h here there =
    elim (q == slot) as (λ b. (q == slot) ≡ b → cond b true (is_cleared cleared q) ≡ true → P) [
      | true ↦ λ t _. here (same_number q slot t)
      | false ↦ λ _ e. there e
    ] refl (sym (read-set cleared slot q true false within) ∙ h)

slice_get-push : {A : Type 0} (xs : List A) (x y : A) (i : ℕ) → slice_get (xs ++ x ∷ []) i ≡ Some y → (slice_get xs i ≡ Some y) ⊎ ((i ≡ length xs) × (y ≡ x))
slice_get-push [] x y zero h = let same : y ≡ x = cc in inr (refl, same)
slice_get-push [] x y (suc i) h = cc
slice_get-push (z ∷ xs) x y zero h = inl h
slice_get-push (z ∷ xs) x y (suc i) h = elim (slice_get-push xs x y i h) [
  | inl there ↦ inl there
  | inr last ↦ inr (ap suc last.0, last.1)
]

-- a value whose children are all cleared is cleared
pub IsClearing-more : (parents : List (Option ℕ)) (children : List (List ℕ)) (cleared : List Bool) (passed upward : List ℕ) (slot : ℕ) → AreKin parents children → slot < length parents → IsClearing parents children cleared passed upward →
    is_cleared cleared slot ≡ false → ((child : ℕ) → parent_at parents child ≡ Some slot → is_cleared cleared child ≡ true) → IsClearing parents children (slice_set cleared slot true) passed (upward ++ slot ∷ [])
IsClearing-more parents children cleared passed upward slot kin below h out all =
    let within : slot < length cleared = omega (arith, below, h.room) in
    record {
      room = length-set cleared slot true ∙ h.room;
      places = h.places;
      closed = λ q child parent is. cleared-cases cleared slot q within is
          (λ here. cleared-more cleared slot child within (all child (parent ∙ ap (λ (n : ℕ). Some n) here)))
          (λ there. cleared-more cleared slot child within (h.closed q child parent there));
      listed = λ q is. among-push upward slot q ∙ cleared-cases cleared slot q within is
          (λ here. or_left (q == slot) (is_among upward q) ((Decides-eqb q slot).1 here))
          (λ there. or_right (q == slot) (is_among upward q) (h.listed q there));
      alone = λ q is. read-set cleared slot q true false within ∙ elim (q == slot) as (λ b. (b || is_among upward q) ≡ true → cond b true (is_cleared cleared q) ≡ true) [
        | true ↦ λ _. refl
        | false ↦ λ rest. h.alone q rest
      ] (sym (among-push upward slot q) ∙ is);
      rising = λ low high child above one parent other.
          elim (slice_get-push upward slot child low one) [
            | inl first ↦ elim (slice_get-push upward slot above high other) [
              | inl second ↦ h.rising low high child above first parent second
              | inr last ↦ let l = slice_get_within upward low child first in omega (arith, l, last.0)
            ]
            | inr now ↦ elim (slice_get-push upward slot above high other) [
              | inl second ↦
                  let was = h.closed above child parent (h.alone above (among_at upward high above second)) in
                  let no : is_cleared cleared child ≡ false = ap (is_cleared cleared) now.1 ∙ out in cc
              | inr last ↦
                  let was = all child (parent ∙ ap (λ (n : ℕ). Some n) last.1) in
                  let no : is_cleared cleared child ≡ false = ap (is_cleared cleared) now.1 ∙ out in cc
            ]
          ];
      fronts = λ q place child few is. cleared-more cleared slot child within (h.fronts q place child few is);
    }

-- more children of a value were passed
pub IsClearing-passed : (parents : List (Option ℕ)) (children : List (List ℕ)) (cleared : List Bool) (passed upward : List ℕ) (slot count : ℕ) → slot < length parents → IsClearing parents children cleared passed upward →
    IsFront (children_at children slot) cleared count → IsClearing parents children cleared (slice_set passed slot count) upward
IsClearing-passed parents children cleared passed upward slot count below h front =
    let within : slot < length passed = omega (arith, below, h.places) in
    record {
      room = h.room;
      places = length-set passed slot count ∙ h.places;
      closed = h.closed;
      listed = h.listed;
      alone = h.alone;
      rising = h.rising;
      fronts = λ q. subst (λ n. IsFront (children_at children q) cleared n) (sym (read-set passed slot q count 0 within))
          (elim (q == slot) as (λ b. (q == slot) ≡ b → IsFront (children_at children q) cleared (cond b count (get_or passed q 0))) [
            | true ↦ λ t. subst (λ n. IsFront (children_at children n) cleared count) (sym (same_number q slot t)) front
            | false ↦ λ _. h.fronts q
          ] refl);
    }

-- nothing is cleared at first
pub IsClearing-none : (parents : List (Option ℕ)) (children : List (List ℕ)) → IsClearing parents children (replicate (length parents) false) (replicate (length parents) 0) []
IsClearing-none parents children = record {
  room = length-rep (length parents) false;
  places = length-rep (length parents) 0;
  closed = λ slot child parent is. let no = blank (length parents) slot in cc;
  listed = λ slot is. let no = blank (length parents) slot in cc;
  alone = λ slot is. cc;
  rising = λ low high child slot one parent other. cc;
  fronts = λ slot place child few is. let no = zeros (length parents) slot in absurd (omega (arith, few, no));
}
  where
    length-rep : {A : Type 0} (n : ℕ) (x : A) → length (replicate n x) ≡ n
    length-rep zero x = refl
    length-rep (suc n) x = ap suc (length-rep n x)

    blank : (room q : ℕ) → is_cleared (replicate room false) q ≡ false
    blank zero q = refl
    blank (suc room) zero = refl
    blank (suc room) (suc q) = blank room q

    zeros : (room q : ℕ) → ◌≡◌ {A = ℕ} (get_or (replicate room 0) q 0) 0
    zeros zero q = refl
    zeros (suc room) zero = refl
    zeros (suc room) (suc q) = zeros room q

-- where all children are passed, all are cleared
pub all_passed : (parents : List (Option ℕ)) (children : List (List ℕ)) (cleared : List Bool) (slot count : ℕ) → AreKin parents children → IsFront (children_at children slot) cleared count → length (children_at children slot) ≤ count →
    (child : ℕ) → parent_at parents child ≡ Some slot → is_cleared cleared child ≡ true
all_passed parents children cleared slot count kin front all child parent =
    let at = kin.place slot child parent in
    let within = slice_get_within (children_at children slot) at.0 child at.1 in
    front at.0 child (omega (arith, within, all)) at.1

-- what was settled stays so, or is looked at next
pub settled-more : (parents : List (Option ℕ)) (cleared : List Bool) (slot q : ℕ) → slot < length cleared → IsSettled parents cleared q → IsSettled parents (slice_set cleared slot true) q ⊎ (parent_at parents slot ≡ Some q)
settled-more parents cleared slot q within (inl clear) = inl (inl (cleared-more cleared slot q within clear))
settled-more parents cleared slot q within (inr w) =
    elim (w.child == slot) as (λ b. (w.child == slot) ≡ b → IsSettled parents (slice_set cleared slot true) q ⊎ (parent_at parents slot ≡ Some q)) [
      | true ↦ λ t. inr (ap (parent_at parents) (sym (same_number w.child slot t)) ∙ w.parent)
      | false ↦ λ t. inl (inr (record { child = w.child; parent = w.parent; uncleared = get_or-set_other cleared slot w.child true false (other_number w.child slot t) ∙ w.uncleared }))
    ] refl

-- a climb from what was settled before
pub IsClimbing-start : (parents : List (Option ℕ)) (children : List (List ℕ)) (cleared : List Bool) (passed upward : List ℕ) (from : ℕ) → from < length parents → IsClearing parents children cleared passed upward →
    IsClimbing parents children cleared cleared passed upward from (Some from)
IsClimbing-start parents children cleared passed upward from below h = record {
  clearing = h;
  settled = λ slot was. inl was;
  start = inr refl;
  below = λ slot is. let same : slot ≡ from = cc in omega (arith, below, same);
}

-- the value that is looked at is settled
pub IsClimbing-settled : (parents : List (Option ℕ)) (children : List (List ℕ)) (before cleared : List Bool) (passed upward : List ℕ) (from slot : ℕ) → IsClimbing parents children before cleared passed upward from (Some slot) →
    IsSettled parents cleared slot → IsClimbing parents children before cleared passed upward from None
IsClimbing-settled parents children before cleared passed upward from slot h now = record {
  clearing = h.clearing;
  settled = λ q was. elim (h.settled q was) [
    | inl there ↦ inl there
    | inr is ↦ let same : q ≡ slot = cc in inl (subst (λ n. IsSettled parents cleared n) (sym same) now)
  ];
  start = elim h.start [
    | inl there ↦ inl there
    | inr is ↦ let same : from ≡ slot = cc in inl (subst (λ n. IsSettled parents cleared n) (sym same) now)
  ];
  below = λ q is. cc;
}

-- it waits for a child
pub IsClimbing-waits : (parents : List (Option ℕ)) (children : List (List ℕ)) (before cleared : List Bool) (passed upward : List ℕ) (from slot count : ℕ) → AreKin parents children → IsClimbing parents children before cleared passed upward from (Some slot) →
    IsFront (children_at children slot) cleared count → ((child : ℕ) → slice_get (children_at children slot) count ≡ Some child → is_cleared cleared child ≡ false) → count < length (children_at children slot) →
    IsClimbing parents children before cleared (slice_set passed slot count) upward from None
IsClimbing-waits parents children before cleared passed upward from slot count kin h front next few =
    let child = get_or (children_at children slot) count 0 in
    let at : slice_get (children_at children slot) count ≡ Some child = slice_get-get_or (children_at children slot) count 0 few in
    let done = IsClimbing-settled parents children before cleared passed upward from slot h (inr (record { child = child; parent = kin.parent slot count child at; uncleared = next child at })) in
    record {
      clearing = IsClearing-passed parents children cleared passed upward slot count (h.below slot refl) h.clearing front;
      settled = done.settled;
      start = done.start;
      below = done.below;
    }

-- it is cleared, and its parent is looked at next
pub IsClimbing-more : (parents : List (Option ℕ)) (children : List (List ℕ)) (before cleared : List Bool) (passed upward : List ℕ) (from slot count : ℕ) → AreKin parents children → IsClimbing parents children before cleared passed upward from (Some slot) →
    is_cleared cleared slot ≡ false → IsFront (children_at children slot) cleared count → length (children_at children slot) ≤ count →
    IsClimbing parents children before (slice_set cleared slot true) (slice_set passed slot count) (upward ++ slot ∷ []) from (parent_at parents slot)
IsClimbing-more parents children before cleared passed upward from slot count kin h out front all =
    let below = h.below slot refl in
    let within : slot < length cleared = omega (arith, below, h.clearing.room) in
    record {
      clearing = IsClearing-more parents children cleared (slice_set passed slot count) upward slot kin below (IsClearing-passed parents children cleared passed upward slot count below h.clearing front) out (all_passed parents children cleared slot count kin front all);
      settled = λ q was. elim (h.settled q was) [
        | inl there ↦ settled-more parents cleared slot q within there
        | inr is ↦ let same : q ≡ slot = cc in inl (inl (ap (is_cleared (slice_set cleared slot true)) same ∙ get_or-set_same cleared slot true false within))
      ];
      start = elim h.start [
        | inl there ↦ settled-more parents cleared slot from within there
        | inr is ↦ let same : from ≡ slot = cc in inl (inl (ap (is_cleared (slice_set cleared slot true)) same ∙ get_or-set_same cleared slot true false within))
      ];
      below = λ q is. kin.above slot q is;
    }

-- no children stand past the end of a table
pub children_at-none : (table : List (List ℕ)) (slot : ℕ) → None ≡ slice_get table slot → children_at table slot ≡ []
children_at-none [] slot e = refl
children_at-none (x ∷ table) zero e = cc
children_at-none (x ∷ table) (suc slot) e = children_at-none table slot e

pub none-test : (xs : List ℕ) (r : Bool) → (r ≡ true → xs ≡ []) × (xs ≡ [] → r ≡ true) → r ≡ has_none xs
none-test [] r tells = tells.1 refl
none-test (x ∷ xs) true tells = let no = tells.0 refl in cc
none-test (x ∷ xs) false tells = refl

-- a place within a list has one element
pub same_read : {A : Type 0} (xs : List A) (i : ℕ) (d e : A) → i < length xs → get_or xs i d ≡ get_or xs i e
same_read [] i d e within = absurd (omega (arith, within))
same_read (x ∷ xs) zero d e within = refl
same_read (x ∷ xs) (suc i) d e within = same_read xs i d e (omega (arith, within))

pub read_at : {A : Type 0} (xs : List A) (slot at : ℕ) (v d : A) → v ≡ get_or xs at v → at ≡ slot → slot < length xs → v ≡ get_or xs slot d
read_at xs slot at v d is same within = is ∙ ap (λ n. get_or xs n v) same ∙ same_read xs slot v d within

pub kids_at : (children : List (List ℕ)) (slot at : ℕ) (kids below : List ℕ) → below ≡ kids → kids ≡ get_or children at kids → at ≡ slot → slot < length children → below ≡ children_at children slot
kids_at children slot at kids below first is same within = first ∙ read_at children slot at kids [] is same within

-- a child of a value has a mark
pub child_below : (parents : List (Option ℕ)) (children : List (List ℕ)) (cleared marks : List Bool) (slot place child : ℕ) (below : List ℕ) → AreKin parents children → length cleared ≡ length parents → marks ≡ cleared → below ≡ children_at children slot → slice_get below place ≡ Some child → child < length marks
child_below parents children cleared marks slot place child below kin room same kids at =
    let parent = kin.parent slot place child (ap (λ (l : List ℕ). slice_get l place) (sym kids) ∙ at) in
    let within = kin.child child slot parent in
    let long = ap (λ (l : List Bool). length l) same in
    omega (arith, within, room, long)

-- the children that were passed are cleared
pub front_at : (parents : List (Option ℕ)) (children : List (List ℕ)) (cleared marks : List Bool) (passed upward below : List ℕ) (slot count : ℕ) → IsClearing parents children cleared passed upward → marks ≡ cleared → below ≡ children_at children slot → count ≡ get_or passed slot 0 → IsFront below marks count
front_at parents children cleared marks passed upward below slot count h same kids count_is = λ place child few at.
    ap (λ (l : List Bool). is_cleared l child) same ∙ h.fronts slot place child (omega (arith, few, count_is)) (ap (λ (l : List ℕ). slice_get l place) (sym kids) ∙ at)

front_of : (children : List (List ℕ)) (cleared marks : List Bool) (below : List ℕ) (slot count : ℕ) → marks ≡ cleared → below ≡ children_at children slot → IsFront below marks count → IsFront (children_at children slot) cleared count
front_of children cleared marks below slot count same kids front = λ place child few at. ap (λ (l : List Bool). is_cleared l child) (sym same) ∙ front place child few (ap (λ (l : List ℕ). slice_get l place) kids ∙ at)

-- the value in hand waits for a child
pub climb-waits : (parents : List (Option ℕ)) (children : List (List ℕ)) (before cleared marks : List Bool) (passed upward below : List ℕ) (from slot at count : ℕ) (next : Option ℕ) → AreKin parents children → IsClimbing parents children before cleared passed upward from next → next ≡ Some slot → at ≡ slot →
    marks ≡ cleared → below ≡ children_at children slot → IsFront below marks count → ((child : ℕ) → slice_get below count ≡ Some child → is_cleared marks child ≡ false) → count < length below →
    IsClimbing parents children before cleared (slice_set passed at count) upward from None
climb-waits parents children before cleared marks passed upward below from slot at count next kin h is here same kids front waits few =
    let long = ap (λ (l : List ℕ). length l) kids in
    subst (λ n. IsClimbing parents children before cleared (slice_set passed n count) upward from None) (sym here)
    (IsClimbing-waits parents children before cleared passed upward from slot count kin (subst (λ (o : Option ℕ). IsClimbing parents children before cleared passed upward from o) is h)
    (front_of children cleared marks below slot count same kids front)
    (λ child place. ap (λ (l : List Bool). is_cleared l child) (sym same) ∙ waits child (ap (λ (l : List ℕ). slice_get l count) kids ∙ place)) (omega (arith, few, long)))

-- or is cleared
pub climb-more : (parents : List (Option ℕ)) (children : List (List ℕ)) (before cleared marks : List Bool) (passed upward upward' below : List ℕ) (from slot at count : ℕ) (next : Option ℕ) → AreKin parents children → IsClimbing parents children before cleared passed upward from next → next ≡ Some slot → at ≡ slot →
    is_cleared cleared slot ≡ false → marks ≡ cleared → below ≡ children_at children slot → IsFront below marks count → length below ≤ count → upward' ≡ upward ++ slot ∷ [] →
    IsClimbing parents children before (slice_set cleared at true) (slice_set passed at count) upward' from (parent_at parents at)
climb-more parents children before cleared marks passed upward upward' below from slot at count next kin h is here out same kids front all pushed =
    let long = ap (λ (l : List ℕ). length l) kids in
    subst (λ n. IsClimbing parents children before (slice_set cleared n true) (slice_set passed n count) upward' from (parent_at parents n)) (sym here)
    (subst (λ (l : List ℕ). IsClimbing parents children before (slice_set cleared slot true) (slice_set passed slot count) l from (parent_at parents slot)) (sym pushed)
    (IsClimbing-more parents children before cleared passed upward from slot count kin (subst (λ (o : Option ℕ). IsClimbing parents children before cleared passed upward from o) is h) out
    (front_of children cleared marks below slot count same kids front) (omega (arith, all, long))))

-- and then fewer are left
pub climb-fewer : (cleared : List Bool) (slot at : ℕ) → at ≡ slot → slot < length cleared → is_cleared cleared slot ≡ false → uncleared (slice_set cleared at true) < uncleared cleared
climb-fewer cleared slot at here within out = subst (λ n. uncleared (slice_set cleared n true) < uncleared cleared) (sym here) (uncleared-set cleared slot within out)

-- one more value is settled
pub settled-next : (parents : List (Option ℕ)) (children : List (List ℕ)) (before cleared : List Bool) (passed upward slots : List ℕ) (i from : ℕ) → i < length slots → from ≡ get_or slots i 0 → IsClimbing parents children before cleared passed upward from None →
    ((slot : ℕ) → is_among (take i slots) slot ≡ true → IsSettled parents before slot) → (slot : ℕ) → is_among (take (i + 1) slots) slot ≡ true → IsSettled parents cleared slot
settled-next parents children before cleared passed upward slots i from within is h was slot among =
    elim (slot == from) as (λ b. (slot == from) ≡ b → (b || is_among (take i slots) slot) ≡ true → IsSettled parents cleared slot) [
      | true ↦ λ t _. subst (λ n. IsSettled parents cleared n) (sym (same_number slot from t)) (elim h.start [ inl there ↦ there | inr none ↦ cc ])
      | false ↦ λ _ rest. elim (h.settled slot (was slot rest)) [ inl there ↦ there | inr none ↦ cc ]
    ] refl (sym (among-more slots i from slot within is) ∙ among)
