-- Worked cases, each worked out by hand: what each statement makes of three values, and what refuses it first.
use Rattle.std.proofs.Common.{ℕ, ◌≡◌, List, [], ◌∷◌, Some, None, refl}
use Rattle.aw_dim.specs.DimensionState.{DimensionState}
use Rattle.dml_tree.specs.declared.statement.Place.TheVariants.{First, Last, Before, After}
use Rattle.dim_maintain.specs.declared.fault.MaintainFault.TheVariants.{NoValue, Repeated, Full}
use Rattle.dim_maintain.specs.Maintained.{added, deleted, moved, renamed}
use Rattle.dim_maintain.specs.Causes.{added_cause, deleted_cause, moved_cause, renamed_cause}

-- names of one letter
abbrev A : List ℕ
A = 65 ∷ []

abbrev B : List ℕ
B = 66 ∷ []

abbrev C : List ℕ
C = 67 ∷ []

abbrev X : List ℕ
X = 88 ∷ []

abbrev Y : List ℕ
Y = 89 ∷ []

-- A, B and C, which have the slots 0, 4 and 2
abbrev three : DimensionState
three = record { entries = (0, A) ∷ (4, B) ∷ (2, C) ∷ []; next = 7 }

-- the same, with one slot left
abbrev last_slot : DimensionState
last_slot = record { entries = (0, A) ∷ (4, B) ∷ (2, C) ∷ []; next = 65535 }

-- ---- ADD

added_last : added three (Y ∷ X ∷ []) Last ≡ record { entries = (0, A) ∷ (4, B) ∷ (2, C) ∷ (7, Y) ∷ (8, X) ∷ []; next = 9 }
added_last = refl

added_behind : added three (Y ∷ X ∷ []) (After A) ≡ record { entries = (0, A) ∷ (7, Y) ∷ (8, X) ∷ (4, B) ∷ (2, C) ∷ []; next = 9 }
added_behind = refl

added_before : added three (Y ∷ X ∷ []) (Before C) ≡ record { entries = (0, A) ∷ (4, B) ∷ (7, Y) ∷ (8, X) ∷ (2, C) ∷ []; next = 9 }
added_before = refl

accepted : added_cause three (Y ∷ X ∷ []) First ≡ None
accepted = refl

-- the first value that has a cause decides, whatever its cause
there_before_empty : added_cause three (X ∷ B ∷ [] ∷ []) Last ≡ Some (Repeated B)
there_before_empty = refl

empty_before_there : added_cause three (X ∷ [] ∷ B ∷ []) Last ≡ Some (NoValue [])
empty_before_there = refl

written_twice : added_cause three (X ∷ Y ∷ X ∷ []) (Before Y) ≡ Some (Repeated X)
written_twice = refl

-- an added value is no place yet
own_place : added_cause three (X ∷ Y ∷ []) (Before Y) ≡ Some (NoValue Y)
own_place = refl

-- one slot is left, so that one is added and two are refused, after all else
one_left : added_cause last_slot (X ∷ []) Last ≡ None
one_left = refl

full : added_cause last_slot (X ∷ Y ∷ []) Last ≡ Some Full
full = refl

place_before_full : added_cause last_slot (X ∷ Y ∷ []) (After X) ≡ Some (NoValue X)
place_before_full = refl

-- ---- DELETE

deleted_two : deleted three (C ∷ A ∷ []) ≡ record { entries = (4, B) ∷ []; next = 7 }
deleted_two = refl

repeated_before_unknown : deleted_cause three (A ∷ A ∷ X ∷ []) ≡ Some (Repeated A)
repeated_before_unknown = refl

unknown_before_repeated : deleted_cause three (A ∷ X ∷ A ∷ []) ≡ Some (NoValue X)
unknown_before_repeated = refl

-- ---- MOVE

moved_before : moved three (C ∷ A ∷ []) (Before B) ≡ record { entries = (2, C) ∷ (0, A) ∷ (4, B) ∷ []; next = 7 }
moved_before = refl

moved_behind : moved three (B ∷ A ∷ []) (After C) ≡ record { entries = (2, C) ∷ (4, B) ∷ (0, A) ∷ []; next = 7 }
moved_behind = refl

moved_last : moved three (A ∷ []) Last ≡ record { entries = (4, B) ∷ (2, C) ∷ (0, A) ∷ []; next = 7 }
moved_last = refl

place_unknown : moved_cause three (A ∷ []) (Before X) ≡ Some (NoValue X)
place_unknown = refl

place_is_moved : moved_cause three (A ∷ B ∷ []) (After A) ≡ Some (Repeated A)
place_is_moved = refl

-- ---- RENAME

renamed_one : renamed three B X ≡ record { entries = (0, A) ∷ (4, X) ∷ (2, C) ∷ []; next = 7 }
renamed_one = refl

its_own_name : renamed_cause three A A ≡ Some (Repeated A)
its_own_name = refl

unknown_and_empty : renamed_cause three X [] ≡ Some (NoValue X)
unknown_and_empty = refl

empty_name : renamed_cause three A [] ≡ Some (NoValue [])
empty_name = refl
