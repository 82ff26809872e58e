-- The lines of a call, one by one.
use Rattle.std.specs.Prelude.{ℕ, ◌≡◌, ⊤, List, [], ◌∷◌, Option, Some, None, get_or, map, length, ◌<◌}
use Rattle.aw_cell.specs.declared.operator.Operator.TheVariants.{Sum}
use Rattle.aw_dim.specs.DimensionState.{DimensionState}
use Rattle.aw_rel.specs.Hierarchy.{Tree, slots_in}
use Rattle.agg_map.specs.declared.line.MapLine.{MapLine}
use Rattle.agg_run.specs.Aggregates.{Line}
use Rattle.agg_run.specs.Calls.{place_in, no_values}
use Rattle.agg_run.specs.declared.fault.AggFault.{AggFault}
use Rattle.agg_run.specs.declared.fault.AggFault.TheVariants.{Loop, TooLarge, Overflow, NoMemory}

-- in place of a line that isn't there
abbrev pub no_line : Line
no_line = record { tree = []; place = 0; operator = Sum }

abbrev pub some_line : MapLine
some_line = record { relation = 0; operator = Sum; rest = None }

-- the hierarchies of lines
abbrev pub trees_of : List Line → List Tree
trees_of lines = map (λ line. line.tree) lines

-- the lines, each with its hierarchy
abbrev pub lines_with : List MapLine → List ℕ → List ℕ → List Tree → List Line
lines_with (line ∷ lines) (dimension ∷ numbers) over (tree ∷ trees) = record { tree = tree; place = place_in over dimension; operator = line.operator } ∷ lines_with lines numbers over trees
lines_with _ _ over _ = []

-- each hierarchy is one of the values of its line's dimension
abbrev pub AreOfValues : List Tree → List ℕ → List ℕ → List DimensionState → Type 0
AreOfValues trees numbers over dimensions =
    (k : ℕ) → k < length trees → slots_in (get_or trees k []) ≡ map (λ entry. entry.0) (get_or dimensions (place_in over (get_or numbers k 0)) no_values).entries

-- why there are no hierarchies: want of memory, or the first line with a loop and the first value on it
abbrev pub IsLoopCause : Option (ℕ × ℕ) → AggFault → Type 0
IsLoopCause first NoMemory = ⊤
IsLoopCause first (Loop line slot) = first ≡ Some (line, slot)
IsLoopCause first (TooLarge count) = ⊥
IsLoopCause first (Overflow key) = ⊥

-- and why there is none of one line
abbrev pub IsCauseAt : ℕ → Option ℕ → AggFault → Type 0
IsCauseAt number first NoMemory = ⊤
IsCauseAt number first (Loop line slot) = (line ≡ number) × (first ≡ Some slot)
IsCauseAt number first (TooLarge count) = ⊥
IsCauseAt number first (Overflow key) = ⊥
