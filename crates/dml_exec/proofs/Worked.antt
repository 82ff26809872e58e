-- Worked cases, each worked out by hand: runs, refusals, machines that are stuck, what is reached, and the first fault.
use Rattle.std.proofs.Common.{◌≡◌, ℕ, ◌*◌, ◌-◌, [], ◌∷◌, List, Some, None, Ok, Err, refl, inl, inr, arith, pos, true, false}
use Rattle.std.specs.Prelude.{codes}
use Rattle.aw_cell.specs.declared.cell.Cell.{Cell}
use Rattle.aw_cell.specs.declared.cell.Cell.TheVariants.{Na, Num, Int, Text as Chars, Bool}
use Rattle.aw_cell.specs.declared.cell.Kind.TheVariants.{Num as NUMBER, Int as INTEGER, Text as TEXT, Bool as BOOLEAN}
use Rattle.aw_cell.specs.declared.number.Arith.TheVariants.{DivideByZero}
use Rattle.dml_exec.specs.declared.kinds.Kinds.{Kinds}
use Rattle.dml_exec.specs.declared.kinds.ObjectKind.TheVariants.{Dimension, Cells}
use Rattle.dml_exec.specs.declared.flow.Way.TheVariants.{Next}
use Rattle.dml_exec.specs.declared.op.Axis.TheVariants.{Free, Fixed}
use Rattle.dml_exec.specs.declared.op.Op.{Op}
use Rattle.dml_exec.specs.declared.op.Op.TheVariants.{Push, Local, Load, Name, NameOf, Add, Sub, Div, NaFill, Branch, Jump}
use Rattle.dml_exec.specs.Free.{free_dimensions}
use Rattle.dml_exec.specs.Meaning.{CodeInputs, meaning}
use Rattle.dml_exec.specs.Verified.{Rules, onward, IsFirstFault}

-- an object 1 whose cell at 7, 3 is 40; the place has 7 in dimension 0, and the one fix is 3
abbrev reads : CodeInputs
reads = record {
  cell = λ object slots. elim slots as (λ _. Cell) [ [] ↦ Na | slot ∷ rest ↦ Int (pos (slot * 10 - object * 30)) ];
  name = λ dimension slot. Chars (codes "Jan");
  place = (2, 5) ∷ (0, 7) ∷ [];
  fixed = 3 ∷ [];
  locals = Na ∷ Int (pos 9) ∷ [];
}

abbrev whole : ℕ → Op
whole n = Push (Int (pos n)) INTEGER

-- ---- runs

pub five_less_three : meaning reads (whole 5 ∷ whole 3 ∷ Sub ∷ []) ≡ Some (Ok (Int (pos 2)))
five_less_three = refl

pub cell_read : meaning reads (Load 1 (Free 0 ∷ Fixed 0 ∷ []) ∷ Local 1 ∷ Add ∷ []) ≡ Some (Ok (Int (pos 49)))
cell_read = refl

pub name_read : meaning reads (Name 2 ∷ []) ≡ Some (Ok (Chars (codes "Jan")))
name_read = refl

pub name_of_nothing : meaning reads (Push Na INTEGER ∷ NameOf 2 ∷ []) ≡ Some (Ok Na)
name_of_nothing = refl

pub na_by_zero : meaning reads (Push Na NUMBER ∷ Push (Num (pos 0)) NUMBER ∷ Div ∷ []) ≡ Some (Ok Na)
na_by_zero = refl

pub one_by_zero : meaning reads (Push (Num (pos 10000)) NUMBER ∷ Push (Num (pos 0)) NUMBER ∷ Div ∷ whole 1 ∷ Add ∷ []) ≡ Some (Err DivideByZero)
one_by_zero = refl

pub filled_local : meaning reads (Local 0 ∷ whole 4 ∷ NaFill ∷ []) ≡ Some (Ok (Int (pos 4)))
filled_local = refl

-- IF c THEN 1 ELSE 2
abbrev choice : Cell → List Op
choice c = Push c BOOLEAN ∷ Branch 4 6 ∷ whole 1 ∷ Jump 7 ∷ whole 2 ∷ Jump 7 ∷ Push Na INTEGER ∷ []

pub yes_chooses : meaning reads (choice (Bool true)) ≡ Some (Ok (Int (pos 1)))
yes_chooses = refl

pub no_chooses : meaning reads (choice (Bool false)) ≡ Some (Ok (Int (pos 2)))
no_chooses = refl

pub na_chooses : meaning reads (choice Na) ≡ Some (Ok Na)
na_chooses = refl

-- ---- stuck

pub operand_missing : meaning reads (whole 5 ∷ Add ∷ []) ≡ None
operand_missing = refl

pub text_added : meaning reads (whole 5 ∷ Push (Chars (codes "a")) TEXT ∷ Add ∷ []) ≡ None
text_added = refl

pub jumps_backwards : meaning reads (whole 5 ∷ Jump 0 ∷ []) ≡ None
jumps_backwards = refl

pub jumps_out : meaning reads (whole 5 ∷ Jump 3 ∷ []) ≡ None
jumps_out = refl

pub two_left : meaning reads (whole 5 ∷ whole 3 ∷ []) ≡ None
two_left = refl

pub no_such_local : meaning reads (Local 2 ∷ []) ≡ None
no_such_local = refl

-- ---- free dimensions

pub free_once : free_dimensions (Load 1 (Free 4 ∷ Fixed 0 ∷ Free 2 ∷ []) ∷ Name 4 ∷ Add ∷ Load 1 (Free 7 ∷ []) ∷ []) ≡ 4 ∷ 2 ∷ 7 ∷ []
free_once = refl

-- ---- what ops take

-- a dimension 0, a variable 1 over it, and a local
abbrev named : Kinds
named = record { objects = Dimension ∷ Cells INTEGER (0 ∷ []) ∷ []; locals = TEXT ∷ [] }

abbrev over : List Op → Rules
over ops = record { kinds = named; fixes = 1; ops = ops }

pub sum_taken : onward (over []) 0 Add (INTEGER ∷ INTEGER ∷ TEXT ∷ []) ≡ Some (Next, INTEGER ∷ TEXT ∷ [])
sum_taken = refl

pub two_types : onward (over []) 0 Add (NUMBER ∷ INTEGER ∷ []) ≡ None
two_types = refl

pub quotient_of_integers : onward (over []) 0 Div (INTEGER ∷ INTEGER ∷ []) ≡ None
quotient_of_integers = refl

pub variable_loaded : onward (over []) 0 (Load 1 (Fixed 0 ∷ [])) [] ≡ Some (Next, INTEGER ∷ [])
variable_loaded = refl

pub fix_missing : onward (over []) 0 (Load 1 (Fixed 1 ∷ [])) [] ≡ None
fix_missing = refl

pub axis_missing : onward (over []) 0 (Load 1 []) [] ≡ None
axis_missing = refl

pub dimension_loaded : onward (over []) 0 (Load 0 []) [] ≡ None
dimension_loaded = refl

-- ---- first faults

-- without ops the end has no cell
pub no_ops : IsFirstFault (over []) 0
no_ops = record { first = λ before less bad. omega arith; here = inr (record { end = refl; stack = []; reached = (refl, refl); many = λ e. omega (arith, e) }) }

-- an operand is missing at the first op
pub first_op_bad : IsFirstFault (over (Add ∷ [])) 0
first_op_bad = record { first = λ before less bad. omega arith; here = inl (inl (record { op = Add; stack = []; here = refl; reached = (refl, refl); stuck = refl })) }
