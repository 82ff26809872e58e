-- The laws on comparison and on logic.
use Rattle.std.proofs.Common.{◌≡◌, ℕ, ◌∙◌, refl, ap, sym, arith, true, false, not, ◌⊎◌, inl, inr, List, [], ℤ, pos, ◌<ℤ◌}
use Rattle.std.specs.Prelude.{IsTrue}
use Rattle.std.specs.Ordering.{int_eq, int_cmp, nat_cmp, is_lt, is_le, is_eq, is_gt, is_ge, ordering_reverse, MatchOrdering}
use Rattle.std.specs.Cmp.{IsTotalOrder, int_cmp_is}
use Rattle.std.specs.Cmp.Lexicographic.{slice_cmp}
use Rattle.std.specs.declared.cmp.Ordering.{Ordering}
use Rattle.std.specs.declared.cmp.Ordering.TheVariants.{Less, Equal, Greater}
use Rattle.std.proofs.lemmas.Bool.Decides.{Decides-int_eq}
use Rattle.std.proofs.lemmas.Int.{ints}
use Rattle.std.proofs.lemmas.Cmp.{upto, tied_itself, int_ranked, int_cmp_total, nat_list_cmp_total, int_eq_equiv, nat_eq_equiv, nat_list_eq_equiv}
use Rattle.std.proofs.lemmas.Map.Text.{is_eq-slice_cmp}
use Rattle.aw_cell.specs.declared.comparison.Order.TheVariants.{Lt, Le, Gt, Ge}
use Rattle.aw_cell.specs.declared.cell.Cell.{Cell}
use Rattle.aw_cell.specs.declared.cell.Cell.TheVariants.{Na, Num, Int, Text, Bool, Slot}
use Rattle.aw_cell.specs.Logic.{is_truth, both, either, negated}
use Rattle.aw_cell.specs.Number.{in_units}
use Rattle.aw_cell.specs.Comparison.{are_equal, order_of, can_be_ordered, compared}
use Rattle.aw_cell.specs.Laws.{is_number, is_text_cell, Precedes, IsOrderedBy, OrdersAgree, DeMorgan}

-- ---- logic

of_both : (a b : Cell) → IsTrue (is_truth a) → IsTrue (is_truth b) → negated (both a b) ≡ either (negated a) (negated b)
of_both Na Na h i = refl
of_both Na (Bool true) h i = refl
of_both Na (Bool false) h i = refl
of_both (Bool true) Na h i = refl
of_both (Bool false) Na h i = refl
of_both (Bool true) (Bool true) h i = refl
of_both (Bool true) (Bool false) h i = refl
of_both (Bool false) (Bool true) h i = refl
of_both (Bool false) (Bool false) h i = refl
of_both _ _ h i = cc

of_either : (a b : Cell) → IsTrue (is_truth a) → IsTrue (is_truth b) → negated (either a b) ≡ both (negated a) (negated b)
of_either Na Na h i = refl
of_either Na (Bool true) h i = refl
of_either Na (Bool false) h i = refl
of_either (Bool true) Na h i = refl
of_either (Bool false) Na h i = refl
of_either (Bool true) (Bool true) h i = refl
of_either (Bool true) (Bool false) h i = refl
of_either (Bool false) (Bool true) h i = refl
of_either (Bool false) (Bool false) h i = refl
of_either _ _ h i = cc

pub de_morgan : DeMorgan
de_morgan = record { of_both = of_both; of_either = of_either }

-- ---- one order and its kin

reversed_gt : (o : Ordering) → is_gt (ordering_reverse o) ≡ is_lt o
reversed_gt Less = refl
reversed_gt Equal = refl
reversed_gt Greater = refl

reversed_ge : (o : Ordering) → is_ge (ordering_reverse o) ≡ is_le o
reversed_ge Less = refl
reversed_ge Equal = refl
reversed_ge Greater = refl

lt_not_ge : (o : Ordering) → is_lt o ≡ not (is_ge o)
lt_not_ge Less = refl
lt_not_ge Equal = refl
lt_not_ge Greater = refl

turned_gt : {K : Type 0} (R : K → K → Ordering) → IsTotalOrder R → (x y : K) → is_gt (R x y) ≡ is_lt (R y x)
turned_gt R o x y = ap is_gt (o.antisymm x y) ∙ reversed_gt (R y x)

turned_ge : {K : Type 0} (R : K → K → Ordering) → IsTotalOrder R → (x y : K) → is_ge (R x y) ≡ is_le (R y x)
turned_ge R o x y = ap is_ge (o.antisymm x y) ∙ reversed_ge (R y x)

le_both_ways : (p q : Ordering) → p ≡ ordering_reverse q → is_le p ≡ true → is_le q ≡ true → p ≡ Equal
le_both_ways Less Less e h i = cc
le_both_ways Less Equal e h i = cc
le_both_ways Less Greater e h i = cc
le_both_ways Equal q e h i = refl
le_both_ways Greater q e h i = cc

le_one_way : (p q : Ordering) → p ≡ ordering_reverse q → (is_le p ≡ true) ⊎ (is_le q ≡ true)
le_one_way Less q e = inl refl
le_one_way Equal q e = inl refl
le_one_way Greater Less e = inr refl
le_one_way Greater Equal e = inr refl
le_one_way Greater Greater e = cc

not_gt : (o : Ordering) → is_le o ≡ true → is_gt o ≡ false
not_gt Less h = refl
not_gt Equal h = refl
not_gt Greater h = cc

le_from_not_gt : (o : Ordering) → is_gt o ≡ false → is_le o ≡ true
le_from_not_gt Less h = refl
le_from_not_gt Equal h = refl
le_from_not_gt Greater h = cc

le_then_le : {K : Type 0} (R : K → K → Ordering) → IsTotalOrder R → (x y z : K) → is_le (R x y) ≡ true → is_le (R y z) ≡ true → is_le (R x z) ≡ true
le_then_le R o x y z h i = le_from_not_gt (R x z) (upto o x y z (not_gt (R x y) h) (not_gt (R y z) i))

-- ---- the orders agree

equal_both_ways : (a b : Cell) → are_equal a b ≡ are_equal b a
equal_both_ways Na Na = refl
equal_both_ways (Num a) (Num b) = int_eq_equiv.symm a b
equal_both_ways (Num a) (Int b) = int_eq_equiv.symm a (in_units b)
equal_both_ways (Int a) (Num b) = int_eq_equiv.symm (in_units a) b
equal_both_ways (Int a) (Int b) = int_eq_equiv.symm a b
equal_both_ways (Text a) (Text b) = nat_list_eq_equiv.symm a b
equal_both_ways (Bool true) (Bool true) = refl
equal_both_ways (Bool true) (Bool false) = refl
equal_both_ways (Bool false) (Bool true) = refl
equal_both_ways (Bool false) (Bool false) = refl
equal_both_ways (Slot a) (Slot b) = nat_eq_equiv.symm a b
equal_both_ways _ _ = refl

greater : (a b : Cell) → IsTrue (can_be_ordered a b) → compared Gt a b ≡ compared Lt b a
greater Na Na h = refl
greater Na b h = refl
greater a Na h = refl
greater (Num a) (Num b) h = ap Bool (turned_gt int_cmp int_cmp_total a b)
greater (Num a) (Int b) h = ap Bool (turned_gt int_cmp int_cmp_total a (in_units b))
greater (Int a) (Num b) h = ap Bool (turned_gt int_cmp int_cmp_total (in_units a) b)
greater (Int a) (Int b) h = ap Bool (turned_gt int_cmp int_cmp_total a b)
greater (Text a) (Text b) h = ap Bool (turned_gt (slice_cmp nat_cmp) nat_list_cmp_total a b)
greater _ _ h = cc

greater_or_equal : (a b : Cell) → IsTrue (can_be_ordered a b) → compared Ge a b ≡ compared Le b a
greater_or_equal Na Na h = refl
greater_or_equal Na b h = refl
greater_or_equal a Na h = refl
greater_or_equal (Num a) (Num b) h = ap Bool (turned_ge int_cmp int_cmp_total a b)
greater_or_equal (Num a) (Int b) h = ap Bool (turned_ge int_cmp int_cmp_total a (in_units b))
greater_or_equal (Int a) (Num b) h = ap Bool (turned_ge int_cmp int_cmp_total (in_units a) b)
greater_or_equal (Int a) (Int b) h = ap Bool (turned_ge int_cmp int_cmp_total a b)
greater_or_equal (Text a) (Text b) h = ap Bool (turned_ge (slice_cmp nat_cmp) nat_list_cmp_total a b)
greater_or_equal _ _ h = cc

less : (a b : Cell) → compared Lt a b ≡ negated (compared Ge a b)
less Na Na = refl
less Na b = refl
less a Na = refl
less a b = ap Bool (lt_not_ge (order_of a b))

pub orders_agree : OrdersAgree
orders_agree = record {
  not_equal = λ a b. refl;
  equal_both_ways = λ a b. ap Bool (equal_both_ways a b);
  greater = greater;
  greater_or_equal = greater_or_equal;
  less = less;
}

-- ---- a total order on numbers

-- a number in ten-thousandths
units_of : Cell → ℤ
units_of (Num a) = a
units_of (Int a) = in_units a
units_of _ = pos 0

abbrev Ranked : Ordering → ℤ → ℤ → Type 0
Ranked o a b = MatchOrdering o (a <ℤ b) (a ≡ b) (b <ℤ a)

ranked_in_units : (o : Ordering) (a b : ℤ) → Ranked o a b → Ranked o (in_units a) (in_units b)
ranked_in_units Less a b h = omega (arith, ints)
ranked_in_units Equal a b h = ap in_units h
ranked_in_units Greater a b h = omega (arith, ints)

cmp_in_units : (a b : ℤ) → int_cmp a b ≡ int_cmp (in_units a) (in_units b)
cmp_in_units a b = int_cmp_is (in_units a) (in_units b) (int_cmp a b) (ranked_in_units (int_cmp a b) a b (int_ranked a b (int_cmp a b) refl))

-- on numbers LE is the order of their ten-thousandths
number_order : (a b : Cell) → IsTrue (is_number a) → IsTrue (is_number b) → compared Le a b ≡ Bool (is_le (int_cmp (units_of a) (units_of b)))
unfolding units_of
number_order (Num a) (Num b) h i = refl
number_order (Num a) (Int b) h i = refl
number_order (Int a) (Num b) h i = refl
number_order (Int a) (Int b) h i = ap (λ o. Bool (is_le o)) (cmp_in_units a b)
number_order _ _ h i = cc

number_equality : (a b : Cell) → IsTrue (is_number a) → IsTrue (is_number b) → int_eq (units_of a) (units_of b) ≡ true → are_equal a b ≡ true
unfolding units_of
number_equality (Num a) (Num b) h i e = e
number_equality (Num a) (Int b) h i e = e
number_equality (Int a) (Num b) h i e = e
number_equality (Int a) (Int b) h i e =
    let same : in_units a ≡ in_units b = (Decides-int_eq (in_units a) (in_units b)).0 e in
    (Decides-int_eq a b).1 (omega (arith, ints))
number_equality _ _ h i e = cc

units_precede : (a b : Cell) → IsTrue (is_number a) → IsTrue (is_number b) → Precedes a b → is_le (int_cmp (units_of a) (units_of b)) ≡ true
units_precede a b h i p = let order = number_order a b h i in cc

precede_by_units : (a b : Cell) → IsTrue (is_number a) → IsTrue (is_number b) → is_le (int_cmp (units_of a) (units_of b)) ≡ true → Precedes a b
precede_by_units a b h i le = number_order a b h i ∙ ap Bool le

tied_units : (x y : ℤ) → int_cmp x y ≡ Equal → int_eq x y ≡ true
tied_units x y e = (Decides-int_eq x y).1 (int_ranked x y Equal (sym e))

le_itself : {K : Type 0} (R : K → K → Ordering) → IsTotalOrder R → (x : K) → is_le (R x x) ≡ true
le_itself R o x = ap is_le (tied_itself o x)

numbers_total : (a b : Cell) → IsTrue (is_number a) → IsTrue (is_number b) → Precedes a b ⊎ Precedes b a
numbers_total a b h i =
    elim (le_one_way (int_cmp (units_of a) (units_of b)) (int_cmp (units_of b) (units_of a)) (int_cmp_total.antisymm (units_of a) (units_of b))) [
      | inl le ↦ inl (precede_by_units a b h i le)
      | inr le ↦ inr (precede_by_units b a i h le)
    ]

pub numbers_ordered : IsOrderedBy is_number
numbers_ordered = record {
  reflexive = λ a h. precede_by_units a a h h (le_itself int_cmp int_cmp_total (units_of a));
  antisymmetric = λ a b h i p q. number_equality a b h i (tied_units (units_of a) (units_of b)
      (le_both_ways _ _ (int_cmp_total.antisymm (units_of a) (units_of b)) (units_precede a b h i p) (units_precede b a i h q)));
  transitive = λ a b c h i j p q. precede_by_units a c h j
      (le_then_le int_cmp int_cmp_total (units_of a) (units_of b) (units_of c) (units_precede a b h i p) (units_precede b c i j q));
  total = numbers_total;
}

-- ---- a total order on texts

bytes_of : Cell → List ℕ
bytes_of (Text bytes) = bytes
bytes_of _ = []

abbrev bytes_cmp : List ℕ → List ℕ → Ordering
bytes_cmp = slice_cmp nat_cmp

text_order : (a b : Cell) → IsTrue (is_text_cell a) → IsTrue (is_text_cell b) → compared Le a b ≡ Bool (is_le (bytes_cmp (bytes_of a) (bytes_of b)))
unfolding bytes_of
text_order (Text a) (Text b) h i = refl
text_order _ _ h i = cc

text_equality : (a b : Cell) → IsTrue (is_text_cell a) → IsTrue (is_text_cell b) → bytes_cmp (bytes_of a) (bytes_of b) ≡ Equal → are_equal a b ≡ true
unfolding bytes_of
text_equality (Text a) (Text b) h i e = sym (is_eq-slice_cmp a b) ∙ ap is_eq e
text_equality _ _ h i e = cc

bytes_precede : (a b : Cell) → IsTrue (is_text_cell a) → IsTrue (is_text_cell b) → Precedes a b → is_le (bytes_cmp (bytes_of a) (bytes_of b)) ≡ true
bytes_precede a b h i p = let order = text_order a b h i in cc

precede_by_bytes : (a b : Cell) → IsTrue (is_text_cell a) → IsTrue (is_text_cell b) → is_le (bytes_cmp (bytes_of a) (bytes_of b)) ≡ true → Precedes a b
precede_by_bytes a b h i le = text_order a b h i ∙ ap Bool le

texts_total : (a b : Cell) → IsTrue (is_text_cell a) → IsTrue (is_text_cell b) → Precedes a b ⊎ Precedes b a
texts_total a b h i =
    elim (le_one_way (bytes_cmp (bytes_of a) (bytes_of b)) (bytes_cmp (bytes_of b) (bytes_of a)) (nat_list_cmp_total.antisymm (bytes_of a) (bytes_of b))) [
      | inl le ↦ inl (precede_by_bytes a b h i le)
      | inr le ↦ inr (precede_by_bytes b a i h le)
    ]

pub texts_ordered : IsOrderedBy is_text_cell
texts_ordered = record {
  reflexive = λ a h. precede_by_bytes a a h h (le_itself bytes_cmp nat_list_cmp_total (bytes_of a));
  antisymmetric = λ a b h i p q. text_equality a b h i
      (le_both_ways _ _ (nat_list_cmp_total.antisymm (bytes_of a) (bytes_of b)) (bytes_precede a b h i p) (bytes_precede b a i h q));
  transitive = λ a b c h i j p q. precede_by_bytes a c h j
      (le_then_le bytes_cmp nat_list_cmp_total (bytes_of a) (bytes_of b) (bytes_of c) (bytes_precede a b h i p) (bytes_precede b c i j q));
  total = texts_total;
}
