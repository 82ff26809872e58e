-- Folds that are carried up: how many cells that aren't NA they are over, and what those make. Sums wrap around at 128 bits.
use Rattle.std.specs.Prelude.{ℕ, ℤ, pos, ◌+◌, ◌%◌, ◌^◌, ◌+ℤ◌, ◌*ℤ◌, List, [], ◌∷◌, Option, Some, None}
use Rattle.std.specs.Int.{int_min, int_max, int_wrap, w128}
use Rattle.aw_cell.specs.declared.cell.Kind.{Kind}
use Rattle.aw_cell.specs.declared.operator.Operator.{Operator}
use Rattle.aw_cell.specs.declared.operator.Operator.TheVariants.{Min, Max, Average, Count}
use Rattle.aw_cell.specs.Rounding.{rounded}
use Rattle.agg_run.specs.Numbers.{one_of}
use Rattle.agg_run.specs.declared.folding.Fold.{Fold}

abbrev pub mixed : Operator → ℤ → ℤ → ℤ
mixed Min one other = int_min one other
mixed Max one other = int_max one other
mixed _ one other = int_wrap w128 (one +ℤ other)

abbrev pub joined : Operator → Fold → Fold → Fold
joined operator one other = record { others = (one.others + other.others + 1) % 2 ^ 64; number = mixed operator one.number other.number }

-- the fold over one number
abbrev pub fold_of : ℤ → Fold
fold_of number = record { others = 0; number = number }

-- with NA, which adds nothing
abbrev pub with : Operator → Option Fold → Option Fold → Option Fold
with operator None other = other
with operator (Some one) None = Some one
with operator (Some one) (Some other) = Some (joined operator one other)

-- what these make together
abbrev pub summed : {X : Type 0} → Operator → (X → Option Fold) → List X → Option Fold
summed operator fold [] = None
summed operator fold (x ∷ xs) = with operator (fold x) (summed operator fold xs)

-- how many cells a fold is over
abbrev pub count_of : Fold → ℕ
count_of fold = fold.others + 1

-- what comes of a fold over all leaves
abbrev pub finished : Kind → Operator → Fold → ℤ
finished kind Average fold = rounded fold.number (pos (count_of fold))
finished kind Count fold = one_of kind *ℤ pos (count_of fold)
finished kind _ fold = fold.number
