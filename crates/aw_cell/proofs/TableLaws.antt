-- The tables of AND, OR and NOT, and of comparison with NA.
use Rattle.std.proofs.Common.{◌≡◌, ◌≢◌, refl, ap, true, false, not}
use Rattle.std.proofs.lemmas.Cmp.{int_eq_equiv, nat_eq_equiv, nat_list_eq_equiv}
use Rattle.aw_cell.specs.declared.cell.Cell.{Cell}
use Rattle.aw_cell.specs.declared.cell.Cell.TheVariants.{Na, Num, Int, Text, Bool, Slot}
use Rattle.aw_cell.specs.Logic.{both, either}
use Rattle.aw_cell.specs.Comparison.{are_equal, unless_na}
use Rattle.aw_cell.specs.Laws.{EqualToItself, ComparesWithNa, AndOfEachPair, OrOfEachPair, NotOfEach, OneSideDecides}

pub and_of_each_pair : AndOfEachPair
and_of_each_pair = record { yes_yes = refl; yes_no = refl; yes_na = refl; no_yes = refl; no_no = refl; no_na = refl; na_yes = refl; na_no = refl; na_na = refl }

pub or_of_each_pair : OrOfEachPair
or_of_each_pair = record { yes_yes = refl; yes_no = refl; yes_na = refl; no_yes = refl; no_no = refl; no_na = refl; na_yes = refl; na_no = refl; na_na = refl }

pub not_of_each : NotOfEach
not_of_each = record { yes = refl; no = refl; na = refl }

and_no : (a : Cell) → both a (Bool false) ≡ Bool false
and_no Na = refl
and_no (Num a) = refl
and_no (Int a) = refl
and_no (Text a) = refl
and_no (Bool true) = refl
and_no (Bool false) = refl
and_no (Slot a) = refl

or_yes : (a : Cell) → either a (Bool true) ≡ Bool true
or_yes Na = refl
or_yes (Num a) = refl
or_yes (Int a) = refl
or_yes (Text a) = refl
or_yes (Bool true) = refl
or_yes (Bool false) = refl
or_yes (Slot a) = refl

pub one_side_decides : OneSideDecides
one_side_decides = record { no_and = λ a. refl; and_no = and_no; yes_or = λ a. refl; or_yes = or_yes }

equal_itself : (a : Cell) → are_equal a a ≡ true
equal_itself Na = refl
equal_itself (Num a) = int_eq_equiv.refl a
equal_itself (Int a) = int_eq_equiv.refl a
equal_itself (Text a) = nat_list_eq_equiv.refl a
equal_itself (Bool true) = refl
equal_itself (Bool false) = refl
equal_itself (Slot a) = nat_eq_equiv.refl a

pub equal_to_itself : EqualToItself
equal_to_itself a = ap Bool (equal_itself a)

na_equals : (a : Cell) → a ≢ Na → are_equal Na a ≡ false
na_equals Na other = absurd (other refl)
na_equals (Num a) other = refl
na_equals (Int a) other = refl
na_equals (Text a) other = refl
na_equals (Bool a) other = refl
na_equals (Slot a) other = refl

equals_na : (a : Cell) → a ≢ Na → are_equal a Na ≡ false
equals_na Na other = absurd (other refl)
equals_na (Num a) other = refl
equals_na (Int a) other = refl
equals_na (Text a) other = refl
equals_na (Bool a) other = refl
equals_na (Slot a) other = refl

with_na : (a answer : Cell) → unless_na a Na answer ≡ Na
with_na Na answer = refl
with_na (Num a) answer = refl
with_na (Int a) answer = refl
with_na (Text a) answer = refl
with_na (Bool a) answer = refl
with_na (Slot a) answer = refl

pub compares_with_na : ComparesWithNa
compares_with_na = record {
  both_eq = refl;
  both_ne = refl;
  one_eq = λ a other. (ap Bool (na_equals a other), ap Bool (equals_na a other));
  one_ne = λ a other. (ap (λ same. Bool (not same)) (na_equals a other), ap (λ same. Bool (not same)) (equals_na a other));
  lt = λ a. (refl, with_na a _);
  le = λ a. (refl, with_na a _);
  gt = λ a. (refl, with_na a _);
  ge = λ a. (refl, with_na a _);
}
