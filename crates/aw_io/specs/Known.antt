-- Bytes that a source or a sink may tell: what a source has left to give, and what a sink was given.
-- `None` tells nothing. Whoever stopped telling doesn't tell again, so one that tells at the last
-- moment told at every moment before.
use Rattle.std.specs.Prelude.{◌≡◌, ℕ, List, [], ◌++◌, ◌+◌, length, min, take, Option, None, Some, refl}
use Rattle.std.proofs.Common.{◌∙◌, ap, sym, subst, append_assoc, append-nil}
use Rattle.std.proofs.Math.Nat.{min-le_right}
use Rattle.std.proofs.Math.Seq.{take-length, take-append-add}
use Rattle.std.proofs.lemmas.List.{take-append-le, take_min}

-- what was left and what is left now, told or not, where these bytes were given in between
abbrev pub LosesFront : Option (List ℕ) → Option (List ℕ) → List ℕ → Type 0
LosesFront before None bytes = Unit {0}
LosesFront None (Some now) bytes = ⊥
LosesFront (Some before) (Some now) bytes = before ≡ bytes ++ now

-- what was written and what is written now, told or not, where these bytes came in between
abbrev pub GainsEnd : Option (List ℕ) → Option (List ℕ) → List ℕ → Type 0
GainsEnd before None bytes = Unit {0}
GainsEnd None (Some now) bytes = ⊥
GainsEnd (Some before) (Some now) bytes = now ≡ before ++ bytes

-- a source gave these bytes: they are the first of what was left, which lost them
pub record Gives (before now : Option (List ℕ)) (bytes : List ℕ) : Type 0 where
  pub where_told : LosesFront before now bytes

-- a sink took these bytes: what was written grew by them
pub record Grows (before now : Option (List ℕ)) (bytes : List ℕ) : Type 0 where
  pub where_told : GainsEnd before now bytes

-- what was written grew by the first of these bytes, none or all of them included
pub record GrowsByFront (before now : Option (List ℕ)) (bytes : List ℕ) : Type 0 where
  pub count : ℕ
  pub grows : Grows before now (take count bytes)

-- what stays gave nothing
pub Gives-nothing : (known : Option (List ℕ)) → Gives known known []
Gives-nothing None = record { where_told = tt }
Gives-nothing (Some left) = record { where_told = refl }

-- what was given first stands before what was given next
pub Gives-append : {start middle now : Option (List ℕ)} {first next : List ℕ} →
    Gives start middle first → Gives middle now next → Gives start now (first ++ next)
Gives-append {now = None} gave gives = record { where_told = tt }
Gives-append {middle = None} {now = Some left} gave gives = absurd gives.where_told
Gives-append {start = None} {middle = Some between} {now = Some left} gave gives = absurd gave.where_told
Gives-append {start = Some all} {middle = Some between} {now = Some left} {first = first} {next = next} gave gives =
    record { where_told = gave.where_told ∙ ap (λ rest. first ++ rest) gives.where_told ∙ sym (append_assoc first next left) }

-- where a source tells that nothing is left, it gave all that it had
pub Gives-all : {before : List ℕ} {bytes : List ℕ} → Gives (Some before) (Some []) bytes → bytes ≡ before
Gives-all {bytes = bytes} gives = sym (append-nil bytes) ∙ sym gives.where_told

-- what stays took nothing
pub Grows-nothing : (known : Option (List ℕ)) → Grows known known []
Grows-nothing None = record { where_told = tt }
Grows-nothing (Some written) = record { where_told = sym (append-nil written) }

-- what came first stands before what came next
pub Grows-append : {start middle now : Option (List ℕ)} {first next : List ℕ} →
    Grows start middle first → Grows middle now next → Grows start now (first ++ next)
Grows-append {now = None} grew grows = record { where_told = tt }
Grows-append {middle = None} {now = Some written} grew grows = absurd grows.where_told
Grows-append {start = None} {middle = Some between} {now = Some written} grew grows = absurd grew.where_told
Grows-append {start = Some before} {middle = Some between} {now = Some written} {first = first} {next = next} grew grows =
    record { where_told = grows.where_told ∙ ap (λ bytes. bytes ++ next) grew.where_told ∙ append_assoc before first next }

-- all bytes are a front of them
pub GrowsByFront-all : {start now : Option (List ℕ)} {bytes : List ℕ} → Grows start now bytes → GrowsByFront start now bytes
GrowsByFront-all {start = start} {now = now} {bytes = bytes} grows =
    record { count = length bytes; grows = subst (λ front. Grows start now front) (sym (take-length bytes)) grows }

-- a front of what came next, after all that came first, is a front of both
pub GrowsByFront-append : {start middle now : Option (List ℕ)} {first next : List ℕ} →
    Grows start middle first → GrowsByFront middle now next → GrowsByFront start now (first ++ next)
GrowsByFront-append {start = start} {now = now} {first = first} {next = next} grew front =
    record {
      count = length first + front.count;
      grows = subst (λ bytes. Grows start now bytes) (sym (take-append-add first next front.count)) (Grows-append grew front.grows);
    }

-- a front of bytes is a front of these bytes and more
pub GrowsByFront-more : {start now : Option (List ℕ)} (bytes more : List ℕ) →
    GrowsByFront start now bytes → GrowsByFront start now (bytes ++ more)
GrowsByFront-more {start = start} {now = now} bytes more front =
    record {
      count = min front.count (length bytes);
      grows = subst (λ taken. Grows start now taken) (sym (take_of_both front.count bytes more)) front.grows;
    }
  where
    take_of_both : (n : ℕ) (xs ys : List ℕ) → take (min n (length xs)) (xs ++ ys) ≡ take n xs
    take_of_both n xs ys = take-append-le (min n (length xs)) xs ys (min-le_right n (length xs)) ∙ take_min n xs
