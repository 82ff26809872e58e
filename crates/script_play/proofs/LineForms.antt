-- Lines that keep the form of a line are short.
use Rattle.std.specs.Prelude.{◌≡◌, ◌≤◌, ◌<◌, ◌+◌, ◌-◌, ◌^◌, ◌&&◌, ℕ, suc, Bool, true, false, not, cond, List, [], ◌∷◌, length, nat_le, nat_lt, position, Option, Some, None, refl}
use Rattle.std.specs.List.{list_all, prefix_len, position_or_len}
use Rattle.std.specs.Option.{option_map}
use Rattle.std.proofs.Common.{sym, arith}
use Rattle.std.proofs.lemmas.Bool.{and_parts, false≢true, leb-true, lt-ltb, ltb-false}
use Rattle.std.proofs.lemmas.Option.{none-some}
use Rattle.ses_step.specs.Lines.{is_line_byte, keeps_form}
use Rattle.script_meaning.specs.DefinitionLines.{form_refusal}

mapped-none : {A B : Type 0} (f : A → B) (found : Option A) → option_map f found ≡ None → found ≡ None
mapped-none f None is = refl
mapped-none f (Some x) is = absurd (none-some (f x) (sym is))

-- all of a list passes a test that its longest front passes
all-long : {A : Type 0} (q : A → Bool) (xs : List A) → length xs ≤ prefix_len q xs → list_all q xs ≡ true
all-long q [] long = refl
all-long q (x ∷ xs) long = by (q x) (λ less. all-long q xs less) long
  where
    by : (test : Bool) → (length xs ≤ prefix_len q xs → list_all q xs ≡ true) → suc (length xs) ≤ cond test (1 + prefix_len q xs) 0 → (test && list_all q xs) ≡ true
    by true rest long = rest (omega (arith, long))
    by false rest long = absurd (omega (arith, long))

all-follow : {A : Type 0} (q r : A → Bool) → ((x : A) → q x ≡ true → r x ≡ true) → (xs : List A) → list_all q xs ≡ true → list_all r xs ≡ true
all-follow q r follows [] all = refl
all-follow q r follows (x ∷ xs) all =
    let parts = and_parts (q x) (list_all q xs) all in by (r x) (follows x parts.0) (all-follow q r follows xs parts.1)
  where
    by : (test : Bool) → test ≡ true → list_all r xs ≡ true → (test && list_all r xs) ≡ true
    by true is rest = rest
    by false is rest = absurd (false≢true is)

-- no line is of another form
abbrev keeps_not : List ℕ → Bool
keeps_not text = not (keeps_form text)

none-placed : (lines : List (List ℕ)) → position keeps_not lines ≡ None → length lines ≤ position_or_len keeps_not lines
none-placed lines none = ltb-false (position_or_len keeps_not lines) (length lines) (by (nat_lt (position_or_len keeps_not lines) (length lines)) none)
  where
    by : (test : Bool) → cond test (Some (position_or_len keeps_not lines)) None ≡ None → test ≡ false
    by true is = absurd (none-some (position_or_len keeps_not lines) (sym is))
    by false is = refl

short-form : (line : List ℕ) → not (not (keeps_form line)) ≡ true → nat_lt (length line) (2 ^ 32 - 1) ≡ true
short-form line is = by (keeps_form line) refl is
  where
    by : (keeps : Bool) → keeps_form line ≡ keeps → not (not keeps) ≡ true → nat_lt (length line) (2 ^ 32 - 1) ≡ true
    by false kept is = absurd (false≢true is)
    by true kept is =
        let small = leb-true (length line) 4096 (and_parts (nat_le (length line) 4096) (list_all is_line_byte line) kept).0 in
        let less : length line < 2 ^ 32 - 1 = omega (arith, small) in
        lt-ltb (length line) (2 ^ 32 - 1) less

pub lines_short : (lines : List (List ℕ)) → form_refusal lines ≡ None → list_all (λ (line : List ℕ). nat_lt (length line) (2 ^ 32 - 1)) lines ≡ true
lines_short lines none =
    all-follow (λ (line : List ℕ). not (keeps_not line)) (λ (line : List ℕ). nat_lt (length line) (2 ^ 32 - 1)) short-form lines
    (all-long (λ (line : List ℕ). not (keeps_not line)) lines (none-placed lines (mapped-none _ (position keeps_not lines) none)))
