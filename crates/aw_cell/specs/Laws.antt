-- Laws on numbers and cells, each over every number, text or cell.
use Rattle.std.specs.Prelude.{◌≡◌, ◌≢◌, ◌⊎◌, ℕ, Bool as Truth, true, false, List, IsTrue, ℤ, pos, negsuc, ◌≤ℤ◌, Ok, IfOk}
use Rattle.aw_cell.specs.declared.cell.Cell.{Cell}
use Rattle.aw_cell.specs.declared.cell.Cell.TheVariants.{Na, Num, Int, Text, Bool}
use Rattle.aw_cell.specs.declared.cell.Kind.{Kind}
use Rattle.aw_cell.specs.declared.comparison.Order.TheVariants.{Eq, Ne, Lt, Le, Gt, Ge}
use Rattle.aw_cell.specs.Number.{IsInRange}
use Rattle.aw_cell.specs.Rounding.{rounded, IsRounded}
use Rattle.aw_cell.specs.Arithmetic.{number_sum, number_product, number_quotient}
use Rattle.aw_cell.specs.CellArithmetic.{cell_sum, cell_difference, cell_product, cell_quotient, cell_negation, cell_size, cell_least, cell_greatest, converted}
use Rattle.aw_cell.specs.Numeral.{Spells}
use Rattle.aw_cell.specs.CellText.{number_text}
use Rattle.aw_cell.specs.Comparison.{are_equal, can_be_ordered, compared}
use Rattle.aw_cell.specs.Logic.{is_truth, both, either, negated}

-- ---- numerals

-- what is written of a number is a numeral of that number
abbrev pub TextsAreNumerals : Type 0
TextsAreNumerals = (units : ℤ) → IsInRange units → Spells (number_text units) units

-- a text is written of one number at most
abbrev pub TextsTellApart : Type 0
TextsTellApart = (x y : ℤ) → IsInRange x → IsInRange y → number_text x ≡ number_text y → x ≡ y

-- a numeral has one value
abbrev pub NumeralsHaveOneValue : Type 0
NumeralsHaveOneValue = (text : List ℕ) (x y : ℤ) → Spells text x → Spells text y → x ≡ y

-- ---- arithmetic

abbrev pub SumsCommute : Type 0
SumsCommute = (x y : ℤ) → number_sum x y ≡ number_sum y x

-- where the inner sums don't overflow, the outer ones are the same, also where they overflow
abbrev pub SumsAssociate : Type 0
SumsAssociate = (x y z s t : ℤ) → number_sum x y ≡ Ok s → number_sum y z ≡ Ok t → number_sum s z ≡ number_sum x t

-- one, which is ten thousand ten-thousandths, changes no number
pub record OneIsNeutral : Type 0 where
  pub times_one : (x : ℤ) → IsInRange x → number_product x (pos 10000) ≡ Ok x
  pub one_times : (x : ℤ) → IsInRange x → number_product (pos 10000) x ≡ Ok x
  pub by_one : (x : ℤ) → IsInRange x → number_quotient x (pos 10000) ≡ Ok x

-- a quotient is rounded to the whole number nearest to it, and of two equally near ones to the one farther from zero:
-- this is one number alone
pub record RoundsToTheNearest : Type 0 where
  pub nearest : (p q : ℤ) → q ≢ pos 0 → IsRounded p q (rounded p q)
  pub alone : (p q r : ℤ) → q ≢ pos 0 → IsRounded p q r → r ≡ rounded p q

-- the range of a cell's kind: a NUMBER has eighteen digits, and an INTEGER lies as far below zero as above
abbrev pub IsCellInRange : Cell → Type 0
IsCellInRange (Num units) = IsInRange units
IsCellInRange (Int whole) = (negsuc 2147483646 ≤ℤ whole) × (whole ≤ℤ pos 2147483647)
IsCellInRange _ = Unit {0}

-- what arithmetic gives is in the range of its kind, where the operands are
pub record StaysInRange : Type 0 where
  pub sum : (a b : Cell) → IfOk (cell_sum a b) IsCellInRange
  pub difference : (a b : Cell) → IfOk (cell_difference a b) IsCellInRange
  pub product : (a b : Cell) → IfOk (cell_product a b) IsCellInRange
  pub quotient : (a b : Cell) → IfOk (cell_quotient a b) IsCellInRange
  pub negation : (a : Cell) → IsCellInRange a → IfOk (cell_negation a) IsCellInRange
  pub size : (a : Cell) → IsCellInRange a → IfOk (cell_size a) IsCellInRange
  pub least : (a b : Cell) → IsCellInRange a → IsCellInRange b → IfOk (cell_least a b) IsCellInRange
  pub greatest : (a b : Cell) → IsCellInRange a → IsCellInRange b → IfOk (cell_greatest a b) IsCellInRange
  pub conversion : (kind : Kind) (a : Cell) → IsCellInRange a → IfOk (converted kind a) IsCellInRange

-- ---- comparison

-- a cell EQ itself is YES
abbrev pub EqualToItself : Type 0
EqualToItself = (a : Cell) → compared Eq a a ≡ Bool true

-- NA compared with NA, and with any other cell
pub record ComparesWithNa : Type 0 where
  pub both_eq : compared Eq Na Na ≡ Bool true
  pub both_ne : compared Ne Na Na ≡ Bool false
  pub one_eq : (a : Cell) → a ≢ Na → (compared Eq Na a ≡ Bool false) × (compared Eq a Na ≡ Bool false)
  pub one_ne : (a : Cell) → a ≢ Na → (compared Ne Na a ≡ Bool true) × (compared Ne a Na ≡ Bool true)
  pub lt : (a : Cell) → (compared Lt Na a ≡ Na) × (compared Lt a Na ≡ Na)
  pub le : (a : Cell) → (compared Le Na a ≡ Na) × (compared Le a Na ≡ Na)
  pub gt : (a : Cell) → (compared Gt Na a ≡ Na) × (compared Gt a Na ≡ Na)
  pub ge : (a : Cell) → (compared Ge Na a ≡ Na) × (compared Ge a Na ≡ Na)

-- whether a cell is an INTEGER or a NUMBER
abbrev pub is_number : Cell → Truth
is_number (Num a) = true
is_number (Int a) = true
is_number _ = false

-- whether a cell is a TEXT
abbrev pub is_text_cell : Cell → Truth
is_text_cell (Text a) = true
is_text_cell _ = false

-- YES to LE
abbrev pub Precedes : Cell → Cell → Type 0
Precedes a b = compared Le a b ≡ Bool true

-- LE is a total order on these cells, and EQ is what it ties
pub record IsOrderedBy (fits : Cell → Truth) : Type 0 where
  pub reflexive : (a : Cell) → IsTrue (fits a) → Precedes a a
  pub antisymmetric : (a b : Cell) → IsTrue (fits a) → IsTrue (fits b) → Precedes a b → Precedes b a → IsTrue (are_equal a b)
  pub transitive : (a b c : Cell) → IsTrue (fits a) → IsTrue (fits b) → IsTrue (fits c) → Precedes a b → Precedes b c → Precedes a c
  pub total : (a b : Cell) → IsTrue (fits a) → IsTrue (fits b) → Precedes a b ⊎ Precedes b a

-- what the other orders have to do with LE and EQ, NA included
pub record OrdersAgree : Type 0 where
  pub not_equal : (a b : Cell) → compared Ne a b ≡ negated (compared Eq a b)
  pub equal_both_ways : (a b : Cell) → compared Eq a b ≡ compared Eq b a
  pub greater : (a b : Cell) → IsTrue (can_be_ordered a b) → compared Gt a b ≡ compared Lt b a
  pub greater_or_equal : (a b : Cell) → IsTrue (can_be_ordered a b) → compared Ge a b ≡ compared Le b a
  pub less : (a b : Cell) → compared Lt a b ≡ negated (compared Ge a b)

-- ---- logic

-- AND of each pair, a row for each
pub record AndOfEachPair : Type 0 where
  pub yes_yes : both (Bool true) (Bool true) ≡ Bool true
  pub yes_no : both (Bool true) (Bool false) ≡ Bool false
  pub yes_na : both (Bool true) Na ≡ Na
  pub no_yes : both (Bool false) (Bool true) ≡ Bool false
  pub no_no : both (Bool false) (Bool false) ≡ Bool false
  pub no_na : both (Bool false) Na ≡ Bool false
  pub na_yes : both Na (Bool true) ≡ Na
  pub na_no : both Na (Bool false) ≡ Bool false
  pub na_na : both Na Na ≡ Na

-- OR of each pair
pub record OrOfEachPair : Type 0 where
  pub yes_yes : either (Bool true) (Bool true) ≡ Bool true
  pub yes_no : either (Bool true) (Bool false) ≡ Bool true
  pub yes_na : either (Bool true) Na ≡ Bool true
  pub no_yes : either (Bool false) (Bool true) ≡ Bool true
  pub no_no : either (Bool false) (Bool false) ≡ Bool false
  pub no_na : either (Bool false) Na ≡ Na
  pub na_yes : either Na (Bool true) ≡ Bool true
  pub na_no : either Na (Bool false) ≡ Na
  pub na_na : either Na Na ≡ Na

-- NOT of each
pub record NotOfEach : Type 0 where
  pub yes : negated (Bool true) ≡ Bool false
  pub no : negated (Bool false) ≡ Bool true
  pub na : negated Na ≡ Na

-- NO decides AND, and YES decides OR, whatever stands on the other side
pub record OneSideDecides : Type 0 where
  pub no_and : (a : Cell) → both (Bool false) a ≡ Bool false
  pub and_no : (a : Cell) → both a (Bool false) ≡ Bool false
  pub yes_or : (a : Cell) → either (Bool true) a ≡ Bool true
  pub or_yes : (a : Cell) → either a (Bool true) ≡ Bool true

-- NOT turns AND into OR and OR into AND, NA included
pub record DeMorgan : Type 0 where
  pub of_both : (a b : Cell) → IsTrue (is_truth a) → IsTrue (is_truth b) → negated (both a b) ≡ either (negated a) (negated b)
  pub of_either : (a b : Cell) → IsTrue (is_truth a) → IsTrue (is_truth b) → negated (either a b) ≡ both (negated a) (negated b)
