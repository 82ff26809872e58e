-- An operator that takes the kinds of its operands takes these, or NA, and gives its kind, or NA.
use Rattle.std.proofs.Common.{◌≡◌, ◌∙◌, Bool as Truth, true, false, ◌&&◌, cond, ℤ, pos, ◌+ℤ◌, ◌-ℤ◌, ◌*ℤ◌, neg_ℤ, unsigned_abs, Option, Some, None, Result, Ok, Err, refl, subst}
use Rattle.std.specs.Bool.{IsTrue}
use Rattle.std.specs.Option.{IsSomeAnd}
use Rattle.std.specs.Result.{IfOk}
use Rattle.std.specs.Int.{int_min, int_max}
use Rattle.std.specs.Ordering.{is_lt, is_le, is_gt, is_ge}
use Rattle.std.proofs.lemmas.Bool.{false≢true, and_parts, and_from}
use Rattle.aw_cell.specs.declared.cell.Cell.{Cell}
use Rattle.aw_cell.specs.declared.cell.Cell.TheVariants.{Na, Num, Int, Text, Bool, Slot}
use Rattle.aw_cell.specs.declared.cell.Kind.{Kind}
use Rattle.aw_cell.specs.declared.cell.Kind.TheVariants.{Num as NumberKind, Int as IntegerKind, Text as TextKind, Bool as BooleanKind}
use Rattle.aw_cell.specs.declared.comparison.Order.{Order}
use Rattle.aw_cell.specs.declared.comparison.Order.TheVariants.{Eq, Ne, Lt, Le, Gt, Ge}
use Rattle.aw_cell.specs.declared.number.Arith.{Arith}
use Rattle.aw_cell.specs.declared.number.Arith.TheVariants.{Overflow}
use Rattle.aw_cell.specs.CellArithmetic.{is_numeric, is_integer, integer_cell, number_cell, on_numbers, on_number, can_be_converted, converted, cell_quotient, cell_negation, cell_size}
use Rattle.aw_cell.specs.Arithmetic.{number_sum, number_difference, number_product, number_quotient}
use Rattle.aw_cell.specs.Rounding.{rounded}
use Rattle.aw_cell.specs.Comparison.{order_of, can_be_ordered, can_be_compared, compared, unless_na}
use Rattle.aw_cell.specs.Logic.{is_truth, both, either, negated, filled}
use Rattle.aw_page.specs.Fitting.{is_of_kind}
use Rattle.dml_exec.specs.declared.operator.Unary.{Unary}
use Rattle.dml_exec.specs.declared.operator.Unary.TheVariants.{Neg, Abs, Convert, Not}
use Rattle.dml_exec.specs.declared.operator.Binary.{Binary}
use Rattle.dml_exec.specs.declared.operator.Binary.TheVariants.{Add, Sub, Mul, Div, Min, Max, NaFill, Compare, And, Or}
use Rattle.dml_exec.specs.Operators.{when, of_one, of_two, is_number, is_decimal, is_boolean, are_numbers, are_alike, can_compare, kind_of_one, kind_of_two}

same_Some : {A : Type 0} (a b : A) → Some a ≡ Some b → a ≡ b
same_Some a b e = cc

none-some : {A : Type 0} (a : A) → None ≡ Some a → ⊥
none-some a e = cc

-- a cell is of a kind, or NA
abbrev pub Of : Kind → Cell → Type 0
Of kind cell = IsTrue (is_of_kind kind cell)

-- an answer is of a kind, or a refusal
abbrev pub GivesOf : Kind → Result Cell Arith → Type 0
GivesOf kind answer = IfOk answer (Of kind)

-- there is such an answer
abbrev pub Gives : Kind → Option (Result Cell Arith) → Type 0
Gives kind answer = IsSomeAnd answer (GivesOf kind)

pub when-some : {A : Type 0} (test : Truth) (a b : A) → when test a ≡ Some b → IsTrue test × (a ≡ b)
when-some true a b e = (refl, same_Some a b e)
when-some false a b e = absurd (none-some b e)

gives-when : (kind : Kind) (test : Truth) (answer : Result Cell Arith) → IsTrue test → GivesOf kind answer → Gives kind (when test answer)
gives-when kind true answer t h = h
gives-when kind false answer t h = absurd (false≢true t)

-- ---- numbers

integer-gives : (whole : ℤ) → GivesOf IntegerKind (integer_cell whole)
integer-gives whole = elim (is_integer whole) as (λ t. GivesOf IntegerKind (cond t (Ok (Int whole)) (Err Overflow))) [ true ↦ refl | false ↦ tt ]

number-gives : (answer : Result ℤ Arith) → GivesOf NumberKind (number_cell answer)
number-gives (Ok units) = refl
number-gives (Err why) = tt

-- two numbers of one kind, or NA
abbrev TakesNumbers : Kind → Cell → Cell → (ℤ → ℤ → Result Cell Arith) → (ℤ → ℤ → Result ℤ Arith) → Type 0
TakesNumbers kind a b on_integers op = IsTrue (is_numeric a && is_numeric b) × GivesOf kind (on_numbers on_integers op a b)

numbers-give : (k l : Kind) (a b : Cell) (on_integers : ℤ → ℤ → Result Cell Arith) (op : ℤ → ℤ → Result ℤ Arith) → ((x y : ℤ) → GivesOf IntegerKind (on_integers x y)) → IsTrue (are_numbers k l) → Of k a → Of l b → TakesNumbers k a b on_integers op
numbers-give NumberKind NumberKind Na Na on op h t p q = (refl, refl)
numbers-give NumberKind NumberKind Na (Num y) on op h t p q = (refl, refl)
numbers-give NumberKind NumberKind (Num x) Na on op h t p q = (refl, refl)
numbers-give NumberKind NumberKind (Num x) (Num y) on op h t p q = (refl, number-gives (op x y))
numbers-give IntegerKind IntegerKind Na Na on op h t p q = (refl, refl)
numbers-give IntegerKind IntegerKind Na (Int y) on op h t p q = (refl, refl)
numbers-give IntegerKind IntegerKind (Int x) Na on op h t p q = (refl, refl)
numbers-give IntegerKind IntegerKind (Int x) (Int y) on op h t p q = (refl, h x y)
numbers-give NumberKind NumberKind Na _ on op h t p q = absurd (false≢true q)
numbers-give NumberKind NumberKind (Num x) _ on op h t p q = absurd (false≢true q)
numbers-give NumberKind NumberKind _ _ on op h t p q = absurd (false≢true p)
numbers-give IntegerKind IntegerKind Na _ on op h t p q = absurd (false≢true q)
numbers-give IntegerKind IntegerKind (Int x) _ on op h t p q = absurd (false≢true q)
numbers-give IntegerKind IntegerKind _ _ on op h t p q = absurd (false≢true p)
numbers-give _ _ a b on op h t p q = absurd (false≢true t)

quotient-gives : (k l : Kind) (a b : Cell) → IsTrue (is_decimal k && are_numbers k l) → Of k a → Of l b → IsTrue (is_numeric a && is_numeric b) × GivesOf k (cell_quotient a b)
quotient-gives NumberKind NumberKind Na Na t p q = (refl, refl)
quotient-gives NumberKind NumberKind Na (Num y) t p q = (refl, refl)
quotient-gives NumberKind NumberKind (Num x) Na t p q = (refl, refl)
quotient-gives NumberKind NumberKind (Num x) (Num y) t p q = (refl, number-gives (number_quotient x y))
quotient-gives NumberKind NumberKind Na _ t p q = absurd (false≢true q)
quotient-gives NumberKind NumberKind (Num x) _ t p q = absurd (false≢true q)
quotient-gives NumberKind NumberKind _ _ t p q = absurd (false≢true p)
quotient-gives _ _ a b t p q = absurd (false≢true t)

number-gives-one : (k : Kind) (a : Cell) (op : ℤ → ℤ) → IsTrue (is_number k) → Of k a → IsTrue (is_numeric a) × GivesOf k (on_number op a)
number-gives-one NumberKind Na op t p = (refl, refl)
number-gives-one NumberKind (Num x) op t p = (refl, refl)
number-gives-one IntegerKind Na op t p = (refl, refl)
number-gives-one IntegerKind (Int x) op t p = (refl, integer-gives (op x))
number-gives-one NumberKind _ op t p = absurd (false≢true p)
number-gives-one IntegerKind _ op t p = absurd (false≢true p)
number-gives-one _ a op t p = absurd (false≢true t)

convert-gives : (to k : Kind) (a : Cell) → IsTrue (is_number to) → IsTrue (is_number k) → Of k a → IsTrue (can_be_converted to a) × GivesOf to (converted to a)
convert-gives NumberKind NumberKind Na t u p = (refl, refl)
convert-gives NumberKind NumberKind (Num x) t u p = (refl, refl)
convert-gives NumberKind IntegerKind Na t u p = (refl, refl)
convert-gives NumberKind IntegerKind (Int x) t u p = (refl, refl)
convert-gives IntegerKind NumberKind Na t u p = (refl, refl)
convert-gives IntegerKind NumberKind (Num x) t u p = (refl, integer-gives (rounded x (pos 10000)))
convert-gives IntegerKind IntegerKind Na t u p = (refl, refl)
convert-gives IntegerKind IntegerKind (Int x) t u p = (refl, refl)
convert-gives NumberKind NumberKind _ t u p = absurd (false≢true p)
convert-gives NumberKind IntegerKind _ t u p = absurd (false≢true p)
convert-gives IntegerKind NumberKind _ t u p = absurd (false≢true p)
convert-gives IntegerKind IntegerKind _ t u p = absurd (false≢true p)
convert-gives NumberKind _ a t u p = absurd (false≢true u)
convert-gives IntegerKind _ a t u p = absurd (false≢true u)
convert-gives _ _ a t u p = absurd (false≢true t)

-- ---- BOOLEANs

boolean-is-truth : (k : Kind) (a : Cell) → IsTrue (is_boolean k) → Of k a → IsTrue (is_truth a)
boolean-is-truth BooleanKind Na t p = refl
boolean-is-truth BooleanKind (Bool x) t p = refl
boolean-is-truth BooleanKind _ t p = absurd (false≢true p)
boolean-is-truth _ a t p = absurd (false≢true t)

is-boolean : (k : Kind) → IsTrue (is_boolean k) → BooleanKind ≡ k
is-boolean BooleanKind t = refl
is-boolean _ t = absurd (false≢true t)

negated-gives : (a : Cell) → Of BooleanKind (negated a)
negated-gives (Bool x) = refl
negated-gives _ = refl

both-gives : (a b : Cell) → Of BooleanKind (both a b)
both-gives (Bool false) _ = refl
both-gives Na (Bool false) = refl
both-gives (Num x) (Bool false) = refl
both-gives (Int x) (Bool false) = refl
both-gives (Text x) (Bool false) = refl
both-gives (Slot x) (Bool false) = refl
both-gives (Bool true) (Bool false) = refl
both-gives (Bool true) (Bool true) = refl
both-gives _ _ = refl

either-gives : (a b : Cell) → Of BooleanKind (either a b)
either-gives (Bool true) _ = refl
either-gives Na (Bool true) = refl
either-gives (Num x) (Bool true) = refl
either-gives (Int x) (Bool true) = refl
either-gives (Text x) (Bool true) = refl
either-gives (Slot x) (Bool true) = refl
either-gives (Bool false) (Bool true) = refl
either-gives (Bool false) (Bool false) = refl
either-gives _ _ = refl

-- ---- comparison

unless-gives : (a b : Cell) (answer : Truth) → Of BooleanKind (unless_na a b (Bool answer))
unless-gives Na _ answer = refl
unless-gives _ Na answer = refl
unless-gives _ _ answer = refl

compared-gives : (order : Order) (a b : Cell) → Of BooleanKind (compared order a b)
compared-gives Eq a b = refl
compared-gives Ne a b = refl
compared-gives Lt a b = unless-gives a b (is_lt (order_of a b))
compared-gives Le a b = unless-gives a b (is_le (order_of a b))
compared-gives Gt a b = unless-gives a b (is_gt (order_of a b))
compared-gives Ge a b = unless-gives a b (is_ge (order_of a b))

-- what can be ordered can be compared in each order
compared-from_ordered : (order : Order) (a b : Cell) → IsTrue (can_be_ordered a b) → IsTrue (can_be_compared order a b)
compared-from_ordered Eq (Bool x) (Bool y) h = refl
compared-from_ordered Ne (Bool x) (Bool y) h = refl
compared-from_ordered Eq (Bool x) _ h = h
compared-from_ordered Ne (Bool x) _ h = h
compared-from_ordered Eq _ _ h = h
compared-from_ordered Ne _ _ h = h
compared-from_ordered _ _ _ h = h

texts-ordered : (a b : Cell) → Of TextKind a → Of TextKind b → IsTrue (can_be_ordered a b)
texts-ordered Na _ p q = refl
texts-ordered (Text x) Na p q = refl
texts-ordered (Text x) (Text y) p q = refl
texts-ordered (Text x) _ p q = absurd (false≢true q)
texts-ordered _ _ p q = absurd (false≢true p)

numbers-ordered : (k l : Kind) (a b : Cell) → IsTrue (are_numbers k l) → Of k a → Of l b → IsTrue (can_be_ordered a b)
numbers-ordered NumberKind NumberKind Na _ t p q = refl
numbers-ordered NumberKind NumberKind (Num x) Na t p q = refl
numbers-ordered NumberKind NumberKind (Num x) (Num y) t p q = refl
numbers-ordered NumberKind NumberKind (Num x) _ t p q = absurd (false≢true q)
numbers-ordered NumberKind NumberKind _ _ t p q = absurd (false≢true p)
numbers-ordered IntegerKind IntegerKind Na _ t p q = refl
numbers-ordered IntegerKind IntegerKind (Int x) Na t p q = refl
numbers-ordered IntegerKind IntegerKind (Int x) (Int y) t p q = refl
numbers-ordered IntegerKind IntegerKind (Int x) _ t p q = absurd (false≢true q)
numbers-ordered IntegerKind IntegerKind _ _ t p q = absurd (false≢true p)
numbers-ordered _ _ a b t p q = absurd (false≢true t)

booleans-equal : (a b : Cell) → Of BooleanKind a → Of BooleanKind b → IsTrue (can_be_compared Eq a b) × IsTrue (can_be_compared Ne a b)
booleans-equal Na _ p q = (refl, refl)
booleans-equal (Bool x) Na p q = (refl, refl)
booleans-equal (Bool x) (Bool y) p q = (refl, refl)
booleans-equal (Bool x) _ p q = absurd (false≢true q)
booleans-equal _ _ p q = absurd (false≢true p)

comparable : (order : Order) (k l : Kind) (a b : Cell) → IsTrue (can_compare order k l) → Of k a → Of l b → IsTrue (can_be_compared order a b)
comparable Eq BooleanKind BooleanKind a b t p q = (booleans-equal a b p q).0
comparable Ne BooleanKind BooleanKind a b t p q = (booleans-equal a b p q).1
comparable Eq TextKind TextKind a b t p q = compared-from_ordered Eq a b (texts-ordered a b p q)
comparable Ne TextKind TextKind a b t p q = compared-from_ordered Ne a b (texts-ordered a b p q)
comparable Lt TextKind TextKind a b t p q = compared-from_ordered Lt a b (texts-ordered a b p q)
comparable Le TextKind TextKind a b t p q = compared-from_ordered Le a b (texts-ordered a b p q)
comparable Gt TextKind TextKind a b t p q = compared-from_ordered Gt a b (texts-ordered a b p q)
comparable Ge TextKind TextKind a b t p q = compared-from_ordered Ge a b (texts-ordered a b p q)
comparable order k l a b t p q = compared-from_ordered order a b (numbers-ordered k l a b t p q)

-- ---- the operators

alike-same : (k l : Kind) → IsTrue (are_alike k l) → l ≡ k
alike-same TextKind TextKind t = refl
alike-same BooleanKind BooleanKind t = refl
alike-same NumberKind NumberKind t = refl
alike-same IntegerKind IntegerKind t = refl
alike-same _ _ t = absurd (false≢true t)

filled-gives : (k : Kind) (a b : Cell) → Of k a → Of k b → Of k (filled a b)
filled-gives k Na b p q = q
filled-gives k _ b p q = p

pub one-gives : (operator : Unary) (k kind : Kind) (a : Cell) → kind_of_one operator k ≡ Some kind → Of k a → Gives kind (of_one operator a)
one-gives Neg k kind a e p =
    let w = when-some (is_number k) k kind e in let g = number-gives-one k a neg_ℤ w.0 p in
    subst (λ (x : Kind). Gives x (of_one Neg a)) w.1 (gives-when k (is_numeric a) (cell_negation a) g.0 g.1)
one-gives Abs k kind a e p =
    let w = when-some (is_number k) k kind e in let g = number-gives-one k a (λ x. pos (unsigned_abs x)) w.0 p in
    subst (λ (x : Kind). Gives x (of_one Abs a)) w.1 (gives-when k (is_numeric a) (cell_size a) g.0 g.1)
one-gives (Convert to) k kind a e p =
    let w = when-some (is_number to && is_number k) to kind e in let t = and_parts (is_number to) (is_number k) w.0 in let g = convert-gives to k a t.0 t.1 p in
    subst (λ (x : Kind). Gives x (of_one (Convert to) a)) w.1 (gives-when to (can_be_converted to a) (converted to a) g.0 g.1)
one-gives Not k kind a e p =
    let w = when-some (is_boolean k) k kind e in
    subst (λ (x : Kind). Gives x (of_one Not a)) (is-boolean k w.0 ∙ w.1) (gives-when BooleanKind (is_truth a) (Ok (negated a)) (boolean-is-truth k a w.0 p) (negated-gives a))

arithmetic : (k l kind : Kind) (a b : Cell) (on_integers : ℤ → ℤ → Result Cell Arith) (op : ℤ → ℤ → Result ℤ Arith) → ((x y : ℤ) → GivesOf IntegerKind (on_integers x y)) → when (are_numbers k l) k ≡ Some kind → Of k a → Of l b → Gives kind (when (is_numeric a && is_numeric b) (on_numbers on_integers op a b))
arithmetic k l kind a b on op h e p q =
    let w = when-some (are_numbers k l) k kind e in let g = numbers-give k l a b on op h w.0 p q in
    subst (λ (x : Kind). Gives x (when (is_numeric a && is_numeric b) (on_numbers on op a b))) w.1 (gives-when k (is_numeric a && is_numeric b) (on_numbers on op a b) g.0 g.1)

truths : (k l kind : Kind) (a b : Cell) (joined : Cell → Cell → Cell) → ((x y : Cell) → Of BooleanKind (joined x y)) → when (is_boolean k && is_boolean l) k ≡ Some kind → Of k a → Of l b → Gives kind (when (is_truth a && is_truth b) (Ok (joined a b)))
truths k l kind a b joined h e p q =
    let w = when-some (is_boolean k && is_boolean l) k kind e in let t = and_parts (is_boolean k) (is_boolean l) w.0 in
    subst (λ (x : Kind). Gives x (when (is_truth a && is_truth b) (Ok (joined a b)))) (is-boolean k t.0 ∙ w.1)
    (gives-when BooleanKind (is_truth a && is_truth b) (Ok (joined a b)) (and_from (is_truth a) (is_truth b) (boolean-is-truth k a t.0 p) (boolean-is-truth l b t.1 q)) (h a b))

pub two-gives : (operator : Binary) (k l kind : Kind) (a b : Cell) → kind_of_two operator k l ≡ Some kind → Of k a → Of l b → Gives kind (of_two operator a b)
two-gives Add k l kind a b e p q = arithmetic k l kind a b (λ x y. integer_cell (x +ℤ y)) number_sum (λ x y. integer-gives (x +ℤ y)) e p q
two-gives Sub k l kind a b e p q = arithmetic k l kind a b (λ x y. integer_cell (x -ℤ y)) number_difference (λ x y. integer-gives (x -ℤ y)) e p q
two-gives Mul k l kind a b e p q = arithmetic k l kind a b (λ x y. integer_cell (x *ℤ y)) number_product (λ x y. integer-gives (x *ℤ y)) e p q
two-gives Div k l kind a b e p q =
    let w = when-some (is_decimal k && are_numbers k l) k kind e in let g = quotient-gives k l a b w.0 p q in
    subst (λ (x : Kind). Gives x (of_two Div a b)) w.1 (gives-when k (is_numeric a && is_numeric b) (cell_quotient a b) g.0 g.1)
two-gives Min k l kind a b e p q = arithmetic k l kind a b (λ x y. integer_cell (int_min x y)) (λ x y. Ok (int_min x y)) (λ x y. integer-gives (int_min x y)) e p q
two-gives Max k l kind a b e p q = arithmetic k l kind a b (λ x y. integer_cell (int_max x y)) (λ x y. Ok (int_max x y)) (λ x y. integer-gives (int_max x y)) e p q
two-gives NaFill k l kind a b e p q =
    let w = when-some (are_alike k l) k kind e in
    subst (λ (x : Kind). Gives x (of_two NaFill a b)) w.1 (filled-gives k a b p (subst (λ (x : Kind). Of x b) (alike-same k l w.0) q))
two-gives (Compare order) k l kind a b e p q =
    let w = when-some (can_compare order k l) BooleanKind kind e in
    subst (λ (x : Kind). Gives x (of_two (Compare order) a b)) w.1 (gives-when BooleanKind (can_be_compared order a b) (Ok (compared order a b)) (comparable order k l a b w.0 p q) (compared-gives order a b))
two-gives And k l kind a b e p q = truths k l kind a b both both-gives e p q
two-gives Or k l kind a b e p q = truths k l kind a b either either-gives e p q
