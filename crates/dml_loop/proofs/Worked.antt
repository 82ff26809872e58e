-- Worked cases, each worked out by hand.
use Rattle.std.proofs.Common.{◌≡◌, ℕ, [], ◌∷◌, List, Some, None, Option, Ok, Err, Result, refl, pos}
use Rattle.std.specs.Prelude.{codes, ◌==◌, cond}
use Rattle.aw_cell.specs.declared.cell.Cell.{Cell}
use Rattle.aw_cell.specs.declared.cell.Cell.TheVariants.{Na, Num, Int, Text as Chars, Slot}
use Rattle.aw_cell.specs.declared.cell.Kind.TheVariants.{Num as NUMBER, Int as INTEGER}
use Rattle.aw_cell.specs.Rounding.{rounded}
use Rattle.aw_cell.specs.declared.number.Arith.TheVariants.{Overflow, DivideByZero}
use Rattle.dml_loop.specs.declared.conversion.Target.TheVariants.{Kind, Relation}
use Rattle.dml_loop.specs.declared.fault.LoopFault.{LoopFault}
use Rattle.dml_loop.specs.declared.fault.LoopFault.TheVariants.{Arith, NoValue, Empty}
use Rattle.dml_loop.specs.Loops.{Place, places, combinations}
use Rattle.dml_loop.specs.Fixes.{slots_of_fixes}
use Rattle.dml_loop.specs.Evaluation.{stored, assigned, shown}

-- dimension 4 at slots 2 and 7, dimension 1 at 9, 3 and 5
abbrev two_lists : List (ℕ × List ℕ)
two_lists = (4, 2 ∷ 7 ∷ []) ∷ (1, 9 ∷ 3 ∷ 5 ∷ []) ∷ []

-- ---- loop order

pub first_varies_slowest : places two_lists ≡
    ((4, 2) ∷ (1, 9) ∷ []) ∷ ((4, 2) ∷ (1, 3) ∷ []) ∷ ((4, 2) ∷ (1, 5) ∷ []) ∷
    ((4, 7) ∷ (1, 9) ∷ []) ∷ ((4, 7) ∷ (1, 3) ∷ []) ∷ ((4, 7) ∷ (1, 5) ∷ []) ∷ []
first_varies_slowest = refl

pub six_places : combinations two_lists ≡ 6
six_places = refl

pub no_dimension : places [] ≡ [] ∷ []
no_dimension = refl

pub empty_list : places ((4, 2 ∷ []) ∷ (1, []) ∷ []) ≡ []
empty_list = refl

-- ---- conversions

-- dimension 6 has `Jan` at slot 8
abbrev found : ℕ → List ℕ → Option ℕ
found dimension [] = None
found dimension (byte ∷ bytes) = cond (dimension == 6) (cond (byte == 74) (Some 8) None) None

pub whole_as_number : stored found (Kind NUMBER) (Int (pos 3)) ≡ Ok (Num (pos 30000))
whole_as_number = refl

pub number_rounded : stored found (Kind INTEGER) (Num (pos 25000)) ≡ Ok (Int (pos 3))
unfolding rounded
number_rounded = refl

pub number_too_great : stored found (Kind INTEGER) (Num (pos 21474836475000)) ≡ Err (Arith Overflow)
unfolding rounded
number_too_great = refl

pub text_related : stored found (Relation 6) (Chars (codes "Jan")) ≡ Ok (Slot 8)
text_related = refl

pub text_unknown : stored found (Relation 6) (Chars (codes "May")) ≡ Err (NoValue (codes "May"))
text_unknown = refl

pub na_related : stored found (Relation 6) Na ≡ Ok Na
na_related = refl

-- ---- the first refusal decides

-- at slot 3 a cell too great for an INTEGER, at slot 5 a division by zero
abbrev two_refusals : Place → Result Cell LoopFault
two_refusals [] = Ok Na
two_refusals (entry ∷ place) = cond (entry.1 == 3) (Ok (Num (pos 21474836475000))) (cond (entry.1 == 5) (Err (Arith DivideByZero)) (Ok (Int (pos 1))))

pub conversion_refused_first : assigned two_refusals (stored found (Kind INTEGER)) (places ((1, 9 ∷ 3 ∷ 5 ∷ []) ∷ [])) ≡ Err (Arith Overflow)
unfolding rounded
conversion_refused_first = refl

pub value_refused_first : assigned two_refusals (stored found (Kind INTEGER)) (places ((1, 9 ∷ 5 ∷ 3 ∷ []) ∷ [])) ≡ Err (Arith DivideByZero)
value_refused_first = refl

pub all_stored : assigned two_refusals (stored found (Kind NUMBER)) (places ((1, 9 ∷ 2 ∷ []) ∷ [])) ≡ Ok ((9 ∷ [], Num (pos 10000)) ∷ (2 ∷ [], Num (pos 10000)) ∷ [])
all_stored = refl

pub none_stored : assigned two_refusals (stored found (Kind NUMBER)) (places ((1, []) ∷ [])) ≡ Ok []
none_stored = refl

-- ---- fixed values

pub first_unknown_value : slots_of_fixes found (record { dimension = 6; value = codes "Jan" } ∷ record { dimension = 6; value = codes "May" } ∷ record { dimension = 5; value = codes "Jan" } ∷ []) ≡ Err (NoValue (codes "May"))
first_unknown_value = refl

-- ---- the first place

pub second_list_empty : shown two_refusals ((4, 2 ∷ []) ∷ (1, []) ∷ (3, []) ∷ []) ≡ Err (Empty 1)
second_list_empty = refl

pub first_slots : shown two_refusals ((1, 5 ∷ 9 ∷ []) ∷ []) ≡ Err (Arith DivideByZero)
first_slots = refl
