-- Lists of pairs by rising numbers: bounds on their keys, and what is found in one list behind another.
use Rattle.std.proofs.Common.{◌≡◌, ℕ, ◌<◌, ◌≤◌, Bool, true, false, cond, List, [], ◌∷◌, ◌++◌, Some, None, refl, sym, ap, ◌∙◌, inl, inr, arith, Less, Equal, Greater}
use Rattle.std.specs.List.{list_all}
use Rattle.std.specs.Prelude.{nat_lt, nat_le}
use Rattle.std.specs.Ordering.{nat_cmp, is_eq, is_lt}
use Rattle.std.specs.Cmp.{nat_cmp_is}
use Rattle.std.specs.FinMap.{find, is_sorted}
use Rattle.std.specs.FinMap.Entries.{below_all}
use Rattle.std.proofs.lemmas.Bool.Decides.{Decides-ltb, leb_tells}
use Rattle.aw_var.proofs.callers.FiniteMaps.{both_true, and_true, either}

pub at_same : (x y : ℕ) → x ≡ y → is_eq (nat_cmp x y) ≡ true
at_same x y e = ap is_eq (sym (nat_cmp_is x y Equal e))

pub at_less : (x y : ℕ) → x < y → is_eq (nat_cmp x y) ≡ false
at_less x y e = ap is_eq (sym (nat_cmp_is x y Less e))

pub at_more : (x y : ℕ) → y < x → is_eq (nat_cmp x y) ≡ false
at_more x y e = ap is_eq (sym (nat_cmp_is x y Greater e))

pub lt_true : (x y : ℕ) → x < y → is_lt (nat_cmp x y) ≡ true
lt_true x y e = ap is_lt (sym (nat_cmp_is x y Less e))

pub le_of : (a b : ℕ) → nat_le a b ≡ true → a ≤ b
le_of a b e = elim (leb_tells a b) [ inl p ↦ p.1 | inr p ↦ cc ]

pub to_le : (a b : ℕ) → a ≤ b → nat_le a b ≡ true
to_le a b h = elim (leb_tells a b) [ inl p ↦ p.0 | inr p ↦ absurd (omega arith) ]

pub list_all-append : {X : Type 0} (p : X → Bool) (xs ys : List X) → list_all p xs ≡ true → list_all p ys ≡ true → list_all p (xs ++ ys) ≡ true
list_all-append p [] ys f g = g
list_all-append p (x ∷ xs) ys f g =
    let parts = both_true (p x) (list_all p xs) f in
    and_true (p x) (list_all p (xs ++ ys)) parts.0 (list_all-append p xs ys parts.1 g)

module _ {X : Type 0} where
  -- every key is at least this, and below that
  abbrev pub from_on : ℕ → List (ℕ × X) → Bool
  from_on least = list_all (λ pair. nat_le least pair.0)

  abbrev pub up_to : ℕ → List (ℕ × X) → Bool
  up_to end = list_all (λ pair. nat_lt pair.0 end)

  pub find-append : (q : ℕ) (xs ys : List (ℕ × X)) → find nat_cmp q (xs ++ ys) ≡ either (find nat_cmp q xs) (find nat_cmp q ys)
  find-append q [] ys = refl
  find-append q (x ∷ xs) ys =
      ap (λ r. cond (is_eq (nat_cmp q x.0)) (Some x.1) r) (find-append q xs ys)
      ∙ elim (is_eq (nat_cmp q x.0)) as (λ b. cond b (Some x.1) (either (find nat_cmp q xs) (find nat_cmp q ys)) ≡ either (cond b (Some x.1) (find nat_cmp q xs)) (find nat_cmp q ys)) [ true ↦ refl | false ↦ refl ]

  pub below-from : (k least : ℕ) (xs : List (ℕ × X)) → k < least → from_on least xs ≡ true → below_all nat_cmp k xs ≡ true
  below-from k least [] h from = refl
  below-from k least (x ∷ xs) h from =
      let parts = both_true (nat_le least x.0) (from_on least xs) from in
      let at : least ≤ x.0 = le_of least x.0 parts.0 in
      and_true (is_lt (nat_cmp k x.0)) (below_all nat_cmp k xs) (lt_true k x.0 (omega arith)) (below-from k least xs h parts.1)

  pub find-below : (q least : ℕ) (xs : List (ℕ × X)) → q < least → from_on least xs ≡ true → find nat_cmp q xs ≡ None
  find-below q least [] h from = refl
  find-below q least (x ∷ xs) h from =
      let parts = both_true (nat_le least x.0) (from_on least xs) from in
      let at : least ≤ x.0 = le_of least x.0 parts.0 in
      ap (λ b. cond b (Some x.1) (find nat_cmp q xs)) (at_less q x.0 (omega arith)) ∙ find-below q least xs h parts.1

  pub find-above : (q end : ℕ) (xs : List (ℕ × X)) → end ≤ q → up_to end xs ≡ true → find nat_cmp q xs ≡ None
  find-above q end [] h upto = refl
  find-above q end (x ∷ xs) h upto =
      let parts = both_true (nat_lt x.0 end) (up_to end xs) upto in
      let at : x.0 < end = (Decides-ltb x.0 end).0 parts.0 in
      ap (λ b. cond b (Some x.1) (find nat_cmp q xs)) (at_more q x.0 (omega arith)) ∙ find-above q end xs h parts.1

  below-append : (k : ℕ) (xs ys : List (ℕ × X)) → below_all nat_cmp k xs ≡ true → below_all nat_cmp k ys ≡ true → below_all nat_cmp k (xs ++ ys) ≡ true
  below-append k [] ys f g = g
  below-append k (x ∷ xs) ys f g =
      let parts = both_true (is_lt (nat_cmp k x.0)) (below_all nat_cmp k xs) f in
      and_true (is_lt (nat_cmp k x.0)) (below_all nat_cmp k (xs ++ ys)) parts.0 (below-append k xs ys parts.1 g)

  -- of two lists in order, the second from a number on to which the first doesn't come
  pub is_sorted-append : (between : ℕ) (xs ys : List (ℕ × X)) → is_sorted nat_cmp xs ≡ true → is_sorted nat_cmp ys ≡ true →
      up_to between xs ≡ true → from_on between ys ≡ true → is_sorted nat_cmp (xs ++ ys) ≡ true
  is_sorted-append between [] ys f g upto from = g
  is_sorted-append between (x ∷ xs) ys f g upto from =
      let parts = both_true (below_all nat_cmp x.0 xs) (is_sorted nat_cmp xs) f in
      let ends = both_true (nat_lt x.0 between) (up_to between xs) upto in
      and_true (below_all nat_cmp x.0 (xs ++ ys)) (is_sorted nat_cmp (xs ++ ys))
      (below-append x.0 xs ys parts.0 (below-from x.0 between ys ((Decides-ltb x.0 between).0 ends.0) from))
      (is_sorted-append between xs ys parts.1 g ends.1 from)

  -- what starts later starts from here on too
  pub from_on-earlier : (low high : ℕ) (xs : List (ℕ × X)) → low ≤ high → from_on high xs ≡ true → from_on low xs ≡ true
  from_on-earlier low high [] h from = refl
  from_on-earlier low high (x ∷ xs) h from =
      let parts = both_true (nat_le high x.0) (from_on high xs) from in
      let at : high ≤ x.0 = le_of high x.0 parts.0 in
      and_true (nat_le low x.0) (from_on low xs) (to_le low x.0 (omega arith)) (from_on-earlier low high xs h parts.1)
