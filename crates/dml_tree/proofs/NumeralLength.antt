-- How long the numeral is that stands at a place, and what its parts are.
use Rattle.std.proofs.Common.{◌≡◌, ◌≤◌, ◌<◌, ◌+◌, ℕ, zero, suc, ◌∙◌, refl, ap, sym, arith, true, false, not, Bool, cond, ◌&&◌, ◌==◌, List, [], ◌∷◌, ◌++◌, length, take, drop, append-nil, append_assoc, length-append, length-take-le, ne_eqb, lt-ltb, add-zero, eqb-true}
use Rattle.std.specs.Prelude.{nat_lt, min}
use Rattle.std.specs.Char.{is_ascii_digit}
use Rattle.std.specs.List.{prefix_len}
use Rattle.std.proofs.Math.Seq.{take-add, drop-append_seam}
use Rattle.std.proofs.lemmas.List.{take-append-drop, length-drop, length-take}
use Rattle.std.proofs.lemmas.List.Folds.{list_all-append, length-prefix_len}
use Rattle.std.proofs.lemmas.List.Sums.{prefix_len-le-length}
use Rattle.aw_cell.specs.Names.{begins_with}
use Rattle.aw_cell.specs.Numeral.{are_digits, pointed, ten_thousandths, SpellsSize}
use Rattle.dml_tree.specs.inside.Scanning.{fraction_len, numeral_len}
use Rattle.dml_tree.proofs.Fronts.{prefix_len-part, prefix_len-behind}

abbrev pub whole_len : List ℕ → ℕ
whole_len bytes = prefix_len is_ascii_digit bytes

abbrev pub has_decimals : List ℕ → Bool
has_decimals [] = false
has_decimals (d ∷ ds) = true

-- ---- no numeral is longer

fraction_at : (bs : List ℕ) (n : ℕ) → 0 < n → prefix_len is_ascii_digit bs ≡ n → fraction_len (46 ∷ bs) ≡ 1 + min n 4
fraction_at bs n some e = let other : (n == 0) ≡ false = ne_eqb n 0 (omega arith) in rw (e, other) refl

covers_parts : (whole decimals rest bytes : List ℕ) → are_digits whole ≡ true → are_digits decimals ≡ true → length decimals ≤ 4 → bytes ≡ whole ++ (pointed decimals ++ rest) → length whole + length (pointed decimals) ≤ numeral_len bytes
unfolding numeral_len
covers_parts whole [] rest bytes w d few e =
    let front : whole_len bytes ≡ length whole + prefix_len is_ascii_digit rest = ap whole_len e ∙ prefix_len-behind is_ascii_digit whole rest w in
    omega arith
covers_parts whole (c ∷ cs) rest bytes w d few e =
    let behind : List ℕ = (c ∷ cs) ++ rest in
    let front : whole_len bytes ≡ length whole = ap whole_len e ∙ prefix_len-behind is_ascii_digit whole (46 ∷ behind) w ∙ add-zero (length whole) in
    let at : drop (whole_len bytes) bytes ≡ 46 ∷ behind = ap (λ n. drop n bytes) front ∙ ap (drop (length whole)) e ∙ drop-append_seam whole (46 ∷ behind) in
    let digits : prefix_len is_ascii_digit behind ≡ length (c ∷ cs) + prefix_len is_ascii_digit rest = prefix_len-behind is_ascii_digit (c ∷ cs) rest d in
    let size : fraction_len (drop (whole_len bytes) bytes) ≡ 1 + min (length (c ∷ cs) + prefix_len is_ascii_digit rest) 4 =
    ap fraction_len at ∙ fraction_at behind (length (c ∷ cs) + prefix_len is_ascii_digit rest) (omega arith) digits in
    let count : length (c ∷ cs) ≡ suc (length cs) = refl in
    omega arith

pub numeral_len-covers : (bytes : List ℕ) (n count : ℕ) → n ≤ length bytes → SpellsSize (take n bytes) count → n ≤ numeral_len bytes
numeral_len-covers bytes n count within s =
    let size : n ≡ length s.whole + length (pointed s.decimals) = sym (length-take-le n bytes within) ∙ ap length s.form ∙ length-append s.whole (pointed s.decimals) in
    let all : bytes ≡ s.whole ++ (pointed s.decimals ++ drop n bytes) =
    sym (take-append-drop n bytes) ∙ ap (λ l. l ++ drop n bytes) s.form ∙ append_assoc s.whole (pointed s.decimals) (drop n bytes) in
    let most = covers_parts s.whole s.decimals (drop n bytes) bytes s.parts.whole_digits s.parts.decimal_digits s.parts.few all in
    omega arith

-- ---- the parts of the numeral

record FractionParts (rest : List ℕ) (len : ℕ) : Type 0 where
  decimals : List ℕ
  form : take len rest ≡ pointed decimals
  digits : are_digits decimals ≡ true
  few : length decimals ≤ 4
  whether : nat_lt 0 len ≡ has_decimals decimals

no_fraction : (rest : List ℕ) → FractionParts rest 0
no_fraction rest = record { decimals = []; form = refl; digits = refl; few = omega arith; whether = refl }

some_fraction : (bs : List ℕ) (k : ℕ) → suc k ≤ prefix_len is_ascii_digit bs → suc k ≤ 4 → FractionParts (46 ∷ bs) (suc (suc k))
some_fraction [] k within few = absurd (omega arith)
some_fraction (c ∷ cs) k within few =
    let most = length-take k cs in
    record { decimals = c ∷ take k cs; form = refl; digits = prefix_len-part is_ascii_digit (c ∷ cs) (suc k) within; few = omega arith; whether = lt-ltb 0 (suc (suc k)) (omega arith) }

behind_point : (bs : List ℕ) (n : ℕ) → n ≡ prefix_len is_ascii_digit bs → FractionParts (46 ∷ bs) (cond (n == 0) 0 (1 + min n 4))
behind_point bs zero e = no_fraction (46 ∷ bs)
behind_point bs (suc k) e =
    let other : (suc k == 0) ≡ false = ne_eqb (suc k) 0 (omega arith) in
    let size : 1 + min (suc k) 4 ≡ suc (suc (min k 3)) = omega arith in
    rw (other, size) (some_fraction bs (min k 3) (omega arith) (omega arith))

fraction_parts : (rest : List ℕ) → FractionParts rest (fraction_len rest)
fraction_parts [] = no_fraction []
fraction_parts (b ∷ bs) = by (b == 46) refl
  where
    by : (point : Bool) → (b == 46) ≡ point → FractionParts (b ∷ bs) (cond point (cond (prefix_len is_ascii_digit bs == 0) 0 (1 + min (prefix_len is_ascii_digit bs) 4)) 0)
    by true e = let here : b ≡ 46 = eqb-true b 46 e in rw here (behind_point bs (prefix_len is_ascii_digit bs) refl)
    by false e = no_fraction (b ∷ bs)

pub record NumeralParts (bytes : List ℕ) (len : ℕ) (has_point : Bool) : Type 0 where
  pub decimals : List ℕ
  pub form : take len bytes ≡ take (whole_len bytes) bytes ++ pointed decimals
  pub whole_digits : are_digits (take (whole_len bytes) bytes) ≡ true
  pub digits : are_digits decimals ≡ true
  pub few : length decimals ≤ 4
  pub whether : has_point ≡ has_decimals decimals

pub numeral_parts : (bytes : List ℕ) → NumeralParts bytes (numeral_len bytes) (nat_lt 0 (fraction_len (drop (whole_len bytes) bytes)))
unfolding numeral_len
numeral_parts bytes =
    let parts = fraction_parts (drop (whole_len bytes) bytes) in
    record {
      decimals = parts.decimals;
      form = take-add (whole_len bytes) (fraction_len (drop (whole_len bytes) bytes)) bytes ∙ ap (λ l. take (whole_len bytes) bytes ++ l) parts.form;
      whole_digits = prefix_len-part is_ascii_digit bytes (whole_len bytes) (omega arith);
      digits = parts.digits;
      few = parts.few;
      whether = parts.whether;
    }

pub whole_some : (bytes : List ℕ) → begins_with is_ascii_digit bytes ≡ true → 0 < whole_len bytes
whole_some [] h = cc
whole_some (b ∷ bs) h = rw h (omega arith)

pub numeral_len-some : (bytes : List ℕ) → begins_with is_ascii_digit bytes ≡ true → 0 < numeral_len bytes
unfolding numeral_len
numeral_len-some bytes h = let some = whole_some bytes h in omega arith

pub numeral_len-size : (bytes : List ℕ) → begins_with is_ascii_digit bytes ≡ true → (count : ℕ) × SpellsSize (take (numeral_len bytes) bytes) count
numeral_len-size bytes h =
    let parts = numeral_parts bytes in
    let some = whole_some bytes h in
    let size = length-prefix_len is_ascii_digit bytes in (
      ten_thousandths (take (whole_len bytes) bytes) parts.decimals,
      record {
        whole = take (whole_len bytes) bytes;
        decimals = parts.decimals;
        form = parts.form;
        parts = record { some = omega arith; whole_digits = parts.whole_digits; few = parts.few; decimal_digits = parts.digits; value = refl };
      },
    )

pub numeral_len-within : (bytes : List ℕ) → (whole_len bytes ≤ length bytes) × (numeral_len bytes ≤ length bytes)
unfolding numeral_len
numeral_len-within bytes =
    let most = prefix_len-le-length is_ascii_digit bytes in
    let rest = fraction_within (drop (whole_len bytes) bytes) in
    let left = length-drop (whole_len bytes) bytes in
    (most, omega arith)
  where
    fraction_within : (rest : List ℕ) → fraction_len rest ≤ length rest
    fraction_within [] = omega arith
    fraction_within (b ∷ bs) = by (b == 46) (prefix_len is_ascii_digit bs == 0) (prefix_len-le-length is_ascii_digit bs)
      where
        by : (point none : Bool) → prefix_len is_ascii_digit bs ≤ length bs → cond point (cond none 0 (1 + min (prefix_len is_ascii_digit bs) 4)) 0 ≤ length (b ∷ bs)
        by true true most = omega arith
        by true false most = omega arith
        by false none most = omega arith

-- a point among the bytes
pub digits_alone : (whole decimals text : List ℕ) → are_digits whole ≡ true → text ≡ whole ++ pointed decimals → are_digits text ≡ not (has_decimals decimals)
digits_alone whole [] text w e = ap are_digits (e ∙ append-nil whole) ∙ w
digits_alone whole (c ∷ cs) text w e = ap are_digits e ∙ list_all-append is_ascii_digit whole (46 ∷ c ∷ cs) ∙ ap (λ b. b && false) w
