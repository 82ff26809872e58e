-- A numeral has its form in one way, and its parts are those that the code finds.
use Rattle.std.proofs.Common.{◌≡◌, ◌≢◌, ◌≤◌, ◌<◌, ◌*◌, ◌+◌, ◌-◌, ◌^◌, ◌==◌, ℕ, zero, suc, ◌∙◌, refl, ap, sym, subst, arith, rules, true, false, not, Bool, List, [], ◌∷◌, ◌++◌, length, get_or, take, drop, append-nil, length-append, length-drop, if◌then◌else◌, ℤ, Result, Ok, Err}
use Rattle.std.specs.Prelude.{Some, None, position, IsUtf8}
use Rattle.std.specs.Char.{is_ascii_digit}
use Rattle.std.specs.List.{position_or_len}
use Rattle.std.specs.Option.{SomeIff}
use Rattle.std.specs.Str.Parse.{digits_value, ParsesUnsigned}
use Rattle.std.specs.Result.{OkIff, result_ok}
use borrow.Author.Tests.{tests}
use Rattle.std.proofs.lemmas.Bool.{and_parts, eqb-true}
use Rattle.std.proofs.lemmas.Bool.Decides.{nat_tests}
use Rattle.std.proofs.lemmas.List.{take_at}
use Rattle.std.proofs.Math.Seq.{drop-append-add}
use Rattle.std.proofs.lemmas.List.Sums.{split_at_first, passes_at_first}
use Rattle.std.proofs.lemmas.Fmt.{IsAscii-from_digits}
use Rattle.std.proofs.lemmas.Str.{IsUtf8-from_ascii}
use Rattle.std.proofs.lemmas.Str.Parse.{IsNumeralModel, numerals_by_value, parse_digits, digits_value_short}
use Rattle.aw_cell.specs.Rounding.{signed}
use Rattle.aw_cell.specs.Numeral.{are_digits, pointed, ten_thousandths, SpellsParts, SpellsSize, Spells}

-- ---- digits

pub digits_model : IsNumeralModel (λ bytes. are_digits bytes ≡ true) (digits_value 10)
digits_model = numerals_by_value _ (search rules)

pub IsUtf8-digits : (bytes : List ℕ) → are_digits bytes ≡ true → IsUtf8 bytes
IsUtf8-digits bytes each = IsUtf8-from_ascii bytes (IsAscii-from_digits bytes (digits_model.to bytes each))

told : {E : Type 0} (r : Result ℕ E) (n : ℕ) → OkIff r (n < 2 ^ 64) n → SomeIff (result_ok r) (n < 2 ^ 64) n
told (Ok v) n h = h
told (Err e) n h = h

-- where the digits are some, it is their value alone that decides
sized : {E : Type 0} (r : Result ℕ E) (bytes : List ℕ) → 0 < length bytes → OkIff r ((0 < length bytes) × (digits_value 10 bytes < 2 ^ 64)) (digits_value 10 bytes) → OkIff r (digits_value 10 bytes < 2 ^ 64) (digits_value 10 bytes)
sized (Ok v) bytes some h = (h.0.1, h.1)
sized (Err e) bytes some h = λ small. h (some, small)

-- what `parse` reads of digits
pub value-parsed : {E : Type 0} (bytes : List ℕ) (r : Result ℕ E) → 0 < length bytes → are_digits bytes ≡ true → ParsesUnsigned 64 10 bytes r → SomeIff (result_ok r) (digits_value 10 bytes < 2 ^ 64) (digits_value 10 bytes)
value-parsed bytes r some each parsed = told r _ (sized r bytes some (parse_digits digits_model 64 bytes r parsed each))

scaled : (v k : ℕ) → k ≤ 4 → v < 10 ^ k → v * 10 ^ (4 - k) < 10000
scaled v zero few h = omega arith
scaled v (suc zero) few h = omega arith
scaled v (suc (suc zero)) few h = omega arith
scaled v (suc (suc (suc zero))) few h = omega arith
scaled v (suc (suc (suc (suc zero)))) few h = omega arith
scaled v (suc (suc (suc (suc (suc k))))) few h = absurd (omega arith)

-- up to four digits are less than ten thousand
pub value_small : (digits : List ℕ) → length digits ≤ 4 → are_digits digits ≡ true → digits_value 10 digits < 10000
value_small digits few each = digits_value_short digits_model digits 4 each few

-- up to four decimals count less than one
pub fraction_small : (decimals : List ℕ) → length decimals ≤ 4 → are_digits decimals ≡ true → digits_value 10 decimals * 10 ^ (4 - length decimals) < 10000
fraction_small decimals few each =
    scaled (digits_value 10 decimals) (length decimals) few (digits_value_short digits_model decimals (length decimals) each (omega arith))

-- ---- the point

not_the_point : (c : ℕ) → is_ascii_digit c ≡ true → (c == 46) ≡ false
not_the_point c h = grind (arith, nat_tests, h)

not_the_minus : (c : ℕ) → is_ascii_digit c ≡ true → c ≢ 45
not_the_minus c h e = grind (arith, nat_tests, h, e)

abbrev is_point : ℕ → Bool
is_point b = b == 46

-- digits have no point in them
pub no_point : (whole : List ℕ) → are_digits whole ≡ true → position_or_len is_point whole ≡ length whole
no_point [] h = refl
no_point (c ∷ cs) h =
    let both = and_parts (is_ascii_digit c) (are_digits cs) h in
    let e = no_point cs both.1 in
    let n = not_the_point c both.0 in
    rw (n, e) (omega arith)

-- the first point behind digits
pub point_behind : (whole rest : List ℕ) → are_digits whole ≡ true → position_or_len is_point (whole ++ 46 ∷ rest) ≡ length whole
point_behind [] rest h = refl
point_behind (c ∷ cs) rest h =
    let both = and_parts (is_ascii_digit c) (are_digits cs) h in
    let e = point_behind cs rest both.1 in
    let n = not_the_point c both.0 in
    rw (n, e) (omega arith)

-- ---- the form without a sign

-- the point and the digits behind it stand in a text once
pointed_once : (d₁ d₂ : List ℕ) → pointed d₁ ≡ pointed d₂ → d₁ ≡ d₂
pointed_once [] [] e = refl
pointed_once [] (d ∷ ds) e = cc
pointed_once (d ∷ ds) [] e = cc
pointed_once (c ∷ cs) (d ∷ ds) e = cc

begins_with_digit : (c : ℕ) (cs rest d : List ℕ) → are_digits (c ∷ cs) ≡ true → pointed d ≡ c ∷ rest → ⊥
begins_with_digit c cs rest [] h e = cc
begins_with_digit c cs rest (d ∷ ds) h e =
    let digit = (and_parts (is_ascii_digit c) (are_digits cs) h).0 in
    let point : c ≡ 46 = cc in
    grind (arith, nat_tests, digit, point)

abbrev SameParts : (w₁ w₂ d₁ d₂ : List ℕ) → Type 0
SameParts w₁ w₂ d₁ d₂ = (w₁ ≡ w₂) × (d₁ ≡ d₂)

pub same_parts : (w₁ w₂ d₁ d₂ : List ℕ) → are_digits w₁ ≡ true → are_digits w₂ ≡ true → w₁ ++ pointed d₁ ≡ w₂ ++ pointed d₂ → SameParts w₁ w₂ d₁ d₂
same_parts [] [] d₁ d₂ h i e = (refl, pointed_once d₁ d₂ e)
same_parts [] (c ∷ cs) d₁ d₂ h i e = absurd (begins_with_digit c cs _ d₁ i e)
same_parts (c ∷ cs) [] d₁ d₂ h i e = absurd (begins_with_digit c cs _ d₂ h (sym e))
same_parts (b ∷ bs) (c ∷ cs) d₁ d₂ h i e =
    let same : bs ++ pointed d₁ ≡ cs ++ pointed d₂ = cc in
    let first : b ≡ c = cc in
    let rest = same_parts bs cs d₁ d₂ (and_parts (is_ascii_digit b) (are_digits bs) h).1 (and_parts (is_ascii_digit c) (are_digits cs) i).1 same in
    (ap (λ l. b ∷ l) rest.0 ∙ ap (λ x. x ∷ cs) first, rest.1)

-- a text without a point has no decimals
none_parts : (text whole decimals : List ℕ) (count : ℕ) → length text ≤ position_or_len is_point text → text ≡ whole ++ pointed decimals → SpellsParts whole decimals count → SpellsParts text [] count
none_parts text whole [] count h e p = subst (λ t. SpellsParts t [] count) (sym (e ∙ append-nil whole)) p
none_parts text whole (d ∷ ds) count h e p =
    let at : position_or_len is_point text ≡ length whole = ap (position_or_len is_point) e ∙ point_behind whole (d ∷ ds) p.whole_digits in
    let long : length text ≡ length whole + length (46 ∷ d ∷ ds) = ap length e ∙ length-append whole (46 ∷ d ∷ ds) in
    absurd (omega arith)

pub unpointed : (text : List ℕ) (count : ℕ) → None ≡ position is_point text → SpellsSize text count → SpellsParts text [] count
unpointed text count none s = none_parts text s.whole s.decimals count (grind (arith, tests, none)) s.form s.parts

pub unpointed_back : (text : List ℕ) (count : ℕ) → SpellsParts text [] count → SpellsSize text count
unpointed_back text count p = record { whole = text; decimals = []; form = sym (append-nil text); parts = p }

behind_point : (whole rest : List ℕ) → drop (length whole + 1) (whole ++ 46 ∷ rest) ≡ rest
behind_point whole rest = drop-append-add whole (46 ∷ rest) 1

-- the decimals of a text with a point are what stands behind the first one
pub record PartsAt (text : List ℕ) (at count : ℕ) : Type 0 where
  pub more : at + 1 ≢ length text
  pub parts : SpellsParts (take at text) (drop (at + 1) text) count

some_parts : (text whole decimals : List ℕ) (at count : ℕ) → at ≡ position_or_len is_point text → at < length text → text ≡ whole ++ pointed decimals → SpellsParts whole decimals count → PartsAt text at count
some_parts text whole [] at count is within e p =
    let end : position_or_len is_point text ≡ length text =
    ap (position_or_len is_point) (e ∙ append-nil whole) ∙ no_point whole p.whole_digits ∙ sym (ap length (e ∙ append-nil whole)) in
    absurd (omega arith)
some_parts text whole (d ∷ ds) at count is within e p =
    let place : at ≡ length whole = is ∙ ap (position_or_len is_point) e ∙ point_behind whole (d ∷ ds) p.whole_digits in
    let long : length text ≡ length whole + length (46 ∷ d ∷ ds) = ap length e ∙ length-append whole (46 ∷ d ∷ ds) in
    let front : take at text ≡ whole = ap (λ n. take n text) place ∙ ap (take (length whole)) e ∙ take_at whole (46 ∷ d ∷ ds) (length whole) refl in
    let back : drop (at + 1) text ≡ d ∷ ds = ap (λ n. drop (n + 1) text) place ∙ ap (drop (length whole + 1)) e ∙ behind_point whole (d ∷ ds) in
    record {
      more = λ end. omega arith;
      parts = subst (λ w. SpellsParts w (drop (at + 1) text) count) (sym front) (subst (λ l. SpellsParts whole l count) (sym back) p);
    }

found_at : (text : List ℕ) (at : ℕ) → Some at ≡ position is_point text → (at ≡ position_or_len is_point text) × (at < length text)
found_at text at some = grind (arith, tests, some)

pub pointed_at : (text : List ℕ) (at count : ℕ) → Some at ≡ position is_point text → SpellsSize text count → PartsAt text at count
pointed_at text at count some s =
    let found = found_at text at some in
    some_parts text s.whole s.decimals at count found.0 found.1 s.form s.parts

point_stands : (rest : List ℕ) → 0 < length rest → 46 ∷ rest ≡ pointed rest
point_stands [] h = absurd (omega arith)
point_stands (d ∷ ds) h = refl

pub pointed_back : (text : List ℕ) (at count : ℕ) → Some at ≡ position is_point text → at + 1 ≢ length text → SpellsParts (take at text) (drop (at + 1) text) count → SpellsSize text count
pointed_back text at count some more p =
    let found = found_at text at some in
    let within : position_or_len is_point text < length text = omega arith in
    let point : get_or text (position_or_len is_point text) 0 ≡ 46 = eqb-true _ _ (passes_at_first is_point text 0 within) in
    let size : length (drop (at + 1) text) ≡ length text - (at + 1) = length-drop (at + 1) text in
    let behind : 46 ∷ drop (at + 1) text ≡ pointed (drop (at + 1) text) = point_stands (drop (at + 1) text) (omega arith) in
    let form : ℕ → Type 0 = λ n. text ≡ take n text ++ (46 ∷ drop (n + 1) text) in
    let split : text ≡ take at text ++ (46 ∷ drop (at + 1) text) =
    subst form (sym found.0) (split_at_first is_point text 0 within ∙ ap (λ b. take (position_or_len is_point text) text ++ (b ∷ drop (position_or_len is_point text + 1) text)) point) in
    record { whole = take at text; decimals = drop (at + 1) text; form = split ∙ ap (λ l. take at text ++ l) behind; parts = p }

-- ---- one value

size_once : (text : List ℕ) (m n : ℕ) → SpellsSize text m → SpellsSize text n → m ≡ n
size_once text m n s t =
    let same = same_parts s.whole t.whole s.decimals t.decimals s.parts.whole_digits t.parts.whole_digits (sym s.form ∙ t.form) in
    s.parts.value ∙ ap (λ w. ten_thousandths w s.decimals) same.0 ∙ ap (λ d. ten_thousandths t.whole d) same.1 ∙ sym t.parts.value

first_digit : (whole decimals rest : List ℕ) → 0 < length whole → are_digits whole ≡ true → whole ++ pointed decimals ≡ 45 ∷ rest → ⊥
first_digit [] decimals rest some h e = absurd (omega arith)
first_digit (c ∷ cs) decimals rest some h e =
    let minus : c ≡ 45 = cc in
    not_the_minus c (and_parts (is_ascii_digit c) (are_digits cs) h).0 minus

-- a numeral without a sign doesn't begin with one
pub unsigned_begins : (text rest : List ℕ) (count : ℕ) → SpellsSize text count → text ≡ 45 ∷ rest → ⊥
unsigned_begins text rest count s e = first_digit s.whole s.decimals rest s.parts.some s.parts.whole_digits (sym s.form ∙ e)

units_once : (n₁ n₂ : Bool) (text u₁ u₂ : List ℕ) (m₁ m₂ : ℕ) → text ≡ (if n₁ then 45 ∷ u₁ else u₁) → text ≡ (if n₂ then 45 ∷ u₂ else u₂) → SpellsSize u₁ m₁ → SpellsSize u₂ m₂ → signed (not n₁) m₁ ≡ signed (not n₂) m₂
units_once true true text u₁ u₂ m₁ m₂ e f s t =
    let same : u₁ ≡ u₂ = cc in
    ap (signed false) (size_once u₂ m₁ m₂ (subst (λ u. SpellsSize u m₁) same s) t)
units_once true false text u₁ u₂ m₁ m₂ e f s t = absurd (unsigned_begins u₂ u₁ m₂ t (sym f ∙ e))
units_once false true text u₁ u₂ m₁ m₂ e f s t = absurd (unsigned_begins u₁ u₂ m₁ s (sym e ∙ f))
units_once false false text u₁ u₂ m₁ m₂ e f s t =
    let same : u₁ ≡ u₂ = cc in
    ap (signed true) (size_once u₂ m₁ m₂ (subst (λ u. SpellsSize u m₁) same s) t)

-- a numeral is one of one number alone
pub spells_once : (text : List ℕ) (x y : ℤ) → Spells text x → Spells text y → x ≡ y
spells_once text x y s t =
    s.value ∙ units_once s.negative t.negative text s.unsigned t.unsigned s.count t.count s.form t.form s.size t.size ∙ sym t.value
