-- A line's numbers while its levels are finished, from the deepest one up.
use Rattle.std.specs.Prelude.{ℕ, suc, ◌≡◌, ◌<◌, ◌≤◌, ◌*◌, ◌^◌, unsigned_abs, max, length, List, [], ◌∷◌, None, IfSome}
use Rattle.std.specs.Option.{option_map}
use Rattle.aw_cell.specs.declared.cell.Kind.{Kind}
use Rattle.aw_cell.specs.declared.operator.Operator.{Operator}
use Rattle.aw_rel.specs.Hierarchy.{Tree}
use Rattle.agg_run.specs.Aggregates.{Line, Numbers, slot_at, pass}
use Rattle.agg_run.specs.inside.Levels.{Levels, Held, on_level, held_at, leaf_cell, whole, whole_cell, ended, depth_in}

-- the sum of so many of the numbers at keys of so many slots fits 128 bits
pub record AreSmall (slots values : ℕ) (numbers : Numbers) : Type 0 where
  pub bound : ℕ
  pub each : (key : List ℕ) → length key ≡ slots → IfSome (numbers key) (λ number. unsigned_abs number ≤ bound)
  pub fits : values * bound < 2 ^ 126

-- numbers at keys of so many slots are no greater than a bound, and where there are any, neither is ten thousand
abbrev pub AreBounded : ℕ → ℕ → Numbers → Type 0
AreBounded slots bound numbers = (key : List ℕ) → length key ≡ slots → IfSome (numbers key) (λ number. (unsigned_abs number ≤ bound) × (10000 ≤ bound))

-- how many times as great numbers may become along lines
abbrev pub room_of : List Line → ℕ
room_of [] = 1
room_of (line ∷ lines) = max 1 (length line.tree) * room_of lines

-- along these lines the numbers stay below 10 ^ 18 * 4194304
pub record HaveRoom (slots : ℕ) (lines : List Line) (numbers : Numbers) : Type 0 where
  pub bound : ℕ
  pub each : AreBounded slots bound numbers
  pub room : bound * room_of lines ≤ 10 ^ 18 * 4194304

-- the numbers after a line, at all keys of so many slots
abbrev pub IsAfter : Kind → Operator → Tree → ℕ → ℕ → Numbers → Numbers → Type 0
IsAfter kind operator tree place slots before after =
    (key : List ℕ) → length key ≡ slots → after key ≡ pass kind before (record { tree = tree; place = place; operator = operator }) key

-- at keys of any number of slots that has the place, where sums of so many numbers fit
abbrev pub IsAfterWhereSmall : Kind → Operator → Tree → ℕ → ℕ → Numbers → Numbers → Type 0
IsAfterWhereSmall kind operator tree values place before after = (slots : ℕ) → place < slots → AreSmall slots values before → IsAfter kind operator tree place slots before after

-- the highest level that is left is complete, those above it have the cells at leaves, and those below it are finished
pub record IsCarried (kind : Kind) (operator : Operator) (tree : Tree) (place : ℕ) (numbers : Numbers) (levels : Levels) (after : Held) : Type 0 where
  pub begun : (depth : ℕ) (key : List ℕ) → suc depth < length levels → on_level levels depth key ≡ leaf_cell tree place numbers depth key
  pub top : (depth : ℕ) (key : List ℕ) → suc depth ≡ length levels → place < length key → on_level levels depth key ≡ whole_cell operator tree place numbers depth key
  pub done : (key : List ℕ) → place < length key → length levels ≤ depth_in tree (slot_at key place) → held_at after key ≡ option_map (ended kind operator tree place key) (whole operator tree place numbers key)
  pub later : (key : List ℕ) → place < length key → depth_in tree (slot_at key place) < length levels → held_at after key ≡ None
