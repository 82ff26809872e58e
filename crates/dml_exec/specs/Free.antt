-- The free dimensions of code.
use Rattle.std.specs.Prelude.{ℕ, ◌==◌, ◌∷◌, [], ◌++◌, Bool, List, if◌then◌else◌}
use Rattle.std.specs.List.{list_any}
use Rattle.dml_exec.specs.declared.op.Axis.{Axis}
use Rattle.dml_exec.specs.declared.op.Axis.TheVariants.{Free, Fixed}
use Rattle.dml_exec.specs.declared.op.Op.{Op}
use Rattle.dml_exec.specs.declared.op.Op.TheVariants.{Load, Name}

abbrev pub free_in_axis : Axis → List ℕ
free_in_axis (Free dimension) = dimension ∷ []
free_in_axis (Fixed fix) = []

abbrev pub free_in_axes : List Axis → List ℕ
free_in_axes [] = []
free_in_axes (axis ∷ axes) = free_in_axis axis ++ free_in_axes axes

-- the dimensions of an op that are at the place's value
abbrev pub free_in_op : Op → List ℕ
free_in_op (Load object axes) = free_in_axes axes
free_in_op (Name dimension) = dimension ∷ []
free_in_op _ = []

abbrev pub free_in : List Op → List ℕ
free_in [] = []
free_in (op ∷ ops) = free_in_op op ++ free_in ops

-- whether a dimension is among these
abbrev pub is_among : List ℕ → ℕ → Bool
is_among free dimension = list_any (λ other. other == dimension) free

-- with one more, where it isn't there yet
abbrev pub with_one : List ℕ → ℕ → List ℕ
with_one free dimension = if is_among free dimension then free else free ++ dimension ∷ []

-- with more, one after the other
abbrev pub with_all : List ℕ → List ℕ → List ℕ
with_all free [] = free
with_all free (dimension ∷ dimensions) = with_all (with_one free dimension) dimensions

-- the dimensions of the free axes and of the names, each once, in the order of the ops
abbrev pub free_dimensions : List Op → List ℕ
free_dimensions ops = with_all [] (free_in ops)
