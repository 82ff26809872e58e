-- What the steps of reading a numeral answer, one after the other.
use Rattle.std.proofs.Common.{◌≡◌, ◌≢◌, ◌≤◌, ◌^◌, ℕ, ◌∙◌, refl, ap, sym, subst, arith, true, false, not, Bool, List, [], ◌∷◌, get_or, take, drop, ℤ, Result, Ok, Err, ◌↔◌, if◌then◌else◌}
use Rattle.std.proofs.lemmas.Int.{ints}
use Rattle.std.proofs.lemmas.Bool.Decides.{nat_tests}
use Rattle.std.specs.Prelude.{nat_eq}
use Rattle.std.specs.Cmp.Lexicographic.{pointwise}
use Rattle.std.proofs.lemmas.Bool.{and_parts, eqb-true}
use Rattle.aw_cell.specs.declared.numeral.NumberFault.{NumberFault}
use Rattle.aw_cell.specs.declared.numeral.NumberFault.TheVariants.{NotANumber, Overflow}
use Rattle.aw_cell.specs.Number.{IsInRange}
use Rattle.aw_cell.specs.Numeral.{SpellsSize, Spells, IsNumeral, SpellsInRange, SpellsPastRange}
use Rattle.aw_cell.specs.inside.NumeralSteps.{ReadsCount, ReadsUnits, SpellsBehind}
use Rattle.aw_cell.specs.Rounding.{signed}
use Rattle.aw_cell.proofs.Numerals.{spells_once, unsigned_begins}

-- what has the same counts is read alike
pub ReadsCount-alike : (P Q : ℕ → Type 0) → ((n : ℕ) → P n → Q n) → ((n : ℕ) → Q n → P n) → (r : Result ℕ NumberFault) → ReadsCount P r → ReadsCount Q r
ReadsCount-alike P Q to from (Ok n) h = (to n h.0, h.1)
ReadsCount-alike P Q to from (Err NotANumber) h = λ n q. h n (from n q)
ReadsCount-alike P Q to from (Err Overflow) h = (h.0, to h.0 h.1, h.2)

ReadsUnits-alike : (P Q : ℤ → Type 0) → ((z : ℤ) → P z → Q z) → ((z : ℤ) → Q z → P z) → (r : Result ℤ NumberFault) → ReadsUnits P r → ReadsUnits Q r
ReadsUnits-alike P Q to from (Ok z) h = (to z h.0, h.1)
ReadsUnits-alike P Q to from (Err NotANumber) h = λ z q. h z (from z q)
ReadsUnits-alike P Q to from (Err Overflow) h = (h.0, to h.0 h.1, h.2)

past_the_range : (sign : Bool) (count : ℕ) → 10 ^ 18 ≤ count → IsInRange (signed sign count) → ⊥
past_the_range true count h i = omega (arith, ints)
past_the_range false count h i = omega (arith, ints)

pub behind_faults : (negative : Bool) (unsigned : List ℕ) (why : NumberFault) → ReadsCount (SpellsSize unsigned) (Err why) → ReadsUnits (SpellsBehind negative unsigned) (Err why)
behind_faults negative unsigned NotANumber h = λ units b. h b.0 b.1
behind_faults negative unsigned Overflow h = (signed (not negative) h.0, (h.0, h.1, refl), past_the_range (not negative) h.0 h.2)

with_sign : (negative : Bool) (text unsigned rest : List ℕ) (count : ℕ) (units : ℤ) → text ≡ 45 ∷ rest → text ≡ (if negative then 45 ∷ unsigned else unsigned) → SpellsSize unsigned count → units ≡ signed (not negative) count → SpellsBehind true rest units
with_sign true text unsigned rest count units e form size value =
    let same : unsigned ≡ rest = cc in
    (count, subst (λ u. SpellsSize u count) same size, value)
with_sign false text unsigned rest count units e form size value = absurd (unsigned_begins unsigned rest count size (sym form ∙ e))

pub numeral_with_sign : (text rest : List ℕ) → text ≡ 45 ∷ rest → (r : Result ℤ NumberFault) → ReadsUnits (SpellsBehind true rest) r → ReadsUnits (Spells text) r
numeral_with_sign text rest e =
    ReadsUnits-alike (SpellsBehind true rest) (Spells text)
    (λ units b. record { negative = true; unsigned = rest; count = b.0; form = e; size = b.1; value = b.2 })
    (λ units s. with_sign s.negative text s.unsigned rest s.count units e s.form s.size s.value)

-- a `-` in front, as the code looks for it
abbrev begins : List ℕ → Bool
begins text = pointwise nat_eq (take 1 text) (45 ∷ [])

pub minus_first : (text rest : List ℕ) → begins text ≡ true → rest ≡ drop 1 text → text ≡ 45 ∷ rest
minus_first [] rest h e = cc
minus_first (c ∷ cs) rest h e =
    let first : c ≡ 45 = eqb-true c 45 (and_parts (nat_eq c 45) true h).0 in
    rw (e, first) refl

pub no_minus_first : (text : List ℕ) → begins text ≡ false → get_or text 0 0 ≢ 45
no_minus_first [] h = λ e. cc
no_minus_first (c ∷ cs) h = λ e. grind (arith, nat_tests)

without_sign : (negative : Bool) (text unsigned : List ℕ) (count : ℕ) (units : ℤ) → get_or text 0 0 ≢ 45 → text ≡ (if negative then 45 ∷ unsigned else unsigned) → SpellsSize unsigned count → units ≡ signed (not negative) count → SpellsBehind false text units
without_sign true text unsigned count units other form size value = absurd (other (ap (λ l. get_or l 0 0) form))
without_sign false text unsigned count units other form size value = (count, subst (λ u. SpellsSize u count) (sym form) size, value)

pub numeral_without_sign : (text : List ℕ) → get_or text 0 0 ≢ 45 → (r : Result ℤ NumberFault) → ReadsUnits (SpellsBehind false text) r → ReadsUnits (Spells text) r
numeral_without_sign text other =
    ReadsUnits-alike (SpellsBehind false text) (Spells text)
    (λ units b. record { negative = false; unsigned = text; count = b.0; form = refl; size = b.1; value = b.2 })
    (λ units s. without_sign s.negative text s.unsigned s.count units other s.form s.size s.value)

-- ---- when each answer comes

pub gives_the_number : (text : List ℕ) (r : Result ℤ NumberFault) → ReadsUnits (Spells text) r → (units : ℤ) → (r ≡ Ok units) ↔ (SpellsInRange text units)
gives_the_number text (Ok z) h units =
    (λ e. let same : z ≡ units = cc in subst (SpellsInRange text) same h, λ q. ap Ok (spells_once text z units h.0 q.0))
gives_the_number text (Err NotANumber) h units = (λ e. cc, λ q. absurd (h units q.0))
gives_the_number text (Err Overflow) h units =
    (λ e. cc, λ q. absurd (h.2 (subst IsInRange (spells_once text units h.0 q.0 h.1) q.1)))

pub refuses_other_texts : (text : List ℕ) (r : Result ℤ NumberFault) → ReadsUnits (Spells text) r → (r ≡ Err NotANumber) ↔ (IsNumeral text → ⊥)
refuses_other_texts text (Ok z) h = (λ e. cc, λ none. absurd (none (z, h.0)))
refuses_other_texts text (Err NotANumber) h = (λ e numeral. h numeral.0 numeral.1, λ none. refl)
refuses_other_texts text (Err Overflow) h = (λ e. cc, λ none. absurd (none (h.0, h.1)))

pub refuses_past_the_range : (text : List ℕ) (r : Result ℤ NumberFault) → ReadsUnits (Spells text) r → (r ≡ Err Overflow) ↔ (SpellsPastRange text)
refuses_past_the_range text (Ok z) h = (λ e. cc, λ q. absurd (q.2 (subst IsInRange (spells_once text z q.0 h.0 q.1) h.1)))
refuses_past_the_range text (Err NotANumber) h = (λ e. cc, λ q. absurd (h q.0 q.1))
refuses_past_the_range text (Err Overflow) h = (λ e. h, λ q. refl)
