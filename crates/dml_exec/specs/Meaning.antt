-- What a run of code means: a fold over its ops on the cells of the stack, the last one first. `None` is a machine
-- that is stuck: an op lacks an operand or has one that it can't take, names what isn't there, or jumps backwards or out.
use Rattle.std.specs.Prelude.{ℕ, ◌+◌, ◌==◌, ◌∷◌, [], true, false, List, length, Option, Some, None, Result, Ok, Err, option_map, option_and_then, slice_get, nat_le, if◌then◌else◌}
use Rattle.std.specs.List.{find}
use Rattle.aw_cell.specs.declared.cell.Cell.{Cell}
use Rattle.aw_cell.specs.declared.cell.Cell.TheVariants.{Na, Slot, Bool}
use Rattle.aw_cell.specs.declared.number.Arith.{Arith}
use Rattle.dml_exec.specs.declared.op.Axis.{Axis}
use Rattle.dml_exec.specs.declared.op.Axis.TheVariants.{Free, Fixed}
use Rattle.dml_exec.specs.declared.op.Op.{Op}
use Rattle.dml_exec.specs.declared.op.Op.TheVariants.{Push, Local, Load, Name, NameOf, Add, Sub, Mul, Div, Neg, Abs, Min, Max, NaFill, Convert, Compare, And, Or, Not, Branch, Jump}
use Rattle.dml_exec.specs.declared.operator.Unary.{Unary}
use Rattle.dml_exec.specs.declared.operator.Unary.TheVariants.{Neg as Negates, Abs as Sizes, Convert as Converts, Not as Inverts}
use Rattle.dml_exec.specs.declared.operator.Binary.{Binary}
use Rattle.dml_exec.specs.declared.operator.Binary.TheVariants.{Add as Adds, Sub as Subtracts, Mul as Multiplies, Div as Divides, Min as TakesLeast, Max as TakesGreatest, NaFill as Fills, Compare as Compares, And as Joins, Or as Offers}
use Rattle.dml_exec.specs.Operators.{of_one, of_two, when}

-- what code reads: the cells of objects and the names of values, a slot for each free dimension, one for each fix, and
-- the locals
pub record CodeInputs : Type 0 where
  pub cell : ℕ → List ℕ → Cell
  pub name : ℕ → ℕ → Cell
  pub place : List (ℕ × ℕ)
  pub fixed : List ℕ
  pub locals : List Cell

abbrev pub code_inputs : (ℕ → List ℕ → Cell) → (ℕ → ℕ → Cell) → List (ℕ × ℕ) → List ℕ → List Cell → CodeInputs
code_inputs cell name place fixed locals = record { cell = cell; name = name; place = place; fixed = fixed; locals = locals }

-- the slot that a place has for a dimension
abbrev pub slot_at : List (ℕ × ℕ) → ℕ → Option ℕ
slot_at place dimension = option_map (λ entry. entry.1) (find (λ entry. entry.0 == dimension) place)

abbrev pub slot_of_axis : List (ℕ × ℕ) → List ℕ → Axis → Option ℕ
slot_of_axis place fixed (Free dimension) = slot_at place dimension
slot_of_axis place fixed (Fixed fix) = slice_get fixed fix

-- the slots of all axes
abbrev pub slots_of : List (ℕ × ℕ) → List ℕ → List Axis → Option (List ℕ)
slots_of place fixed [] = Some []
slots_of place fixed (axis ∷ axes) = option_and_then (λ slot. option_map (λ slots. slot ∷ slots) (slots_of place fixed axes)) (slot_of_axis place fixed axis)

-- the coordinate of these axes, which has at most 6 slots
abbrev pub coordinate : List (ℕ × ℕ) → List ℕ → List Axis → Option (List ℕ)
coordinate place fixed axes = option_and_then (λ slots. slots) (when (nat_le (length axes) 6) (slots_of place fixed axes))

-- where a machine stands: the place of its next op, and its cells
abbrev pub Standing : Type 0
Standing = ℕ × List Cell

-- a standing, a refusal, or a machine that is stuck
abbrev pub Outcome : Type 0
Outcome = Option (Result Standing Arith)

-- an answer on the other cells, or its refusal
abbrev pub answered : ℕ → List Cell → Result Cell Arith → Result Standing Arith
answered next cells (Ok cell) = Ok (next, cell ∷ cells)
answered next cells (Err why) = Err why

abbrev pub pushed : ℕ → List Cell → Option Cell → Outcome
pushed next cells cell = option_map (λ cell. answered next cells (Ok cell)) cell

abbrev pub on_one : Unary → ℕ → List Cell → Outcome
on_one operator next [] = None
on_one operator next (a ∷ cells) = option_map (answered next cells) (of_one operator a)

-- the right operand is the last one
abbrev pub on_two : Binary → ℕ → List Cell → Outcome
on_two operator next [] = None
on_two operator next (b ∷ []) = None
on_two operator next (b ∷ a ∷ cells) = option_map (answered next cells) (of_two operator a b)

-- the name of a slot; NA has the name NA
abbrev pub name_of : (ℕ → Cell) → Cell → Option Cell
name_of name (Slot slot) = Some (name slot)
name_of name Na = Some Na
name_of name _ = None

abbrev pub named : (ℕ → Cell) → ℕ → List Cell → Outcome
named name next [] = None
named name next (cell ∷ cells) = pushed next cells (name_of name cell)

-- where YES goes on, and where NO and NA do
abbrev pub branched : ℕ → ℕ → ℕ → Cell → Option ℕ
branched at_yes at_no at_na (Bool true) = Some at_yes
branched at_yes at_no at_na (Bool false) = Some at_no
branched at_yes at_no at_na Na = Some at_na
branched at_yes at_no at_na _ = None

abbrev pub on_branch : ℕ → ℕ → ℕ → List Cell → Outcome
on_branch at_yes at_no at_na [] = None
on_branch at_yes at_no at_na (cell ∷ cells) = option_map (λ next. Ok (next, cells)) (branched at_yes at_no at_na cell)

-- what the op at a place makes of the cells
abbrev pub turn : CodeInputs → ℕ → Op → List Cell → Outcome
turn r at (Push cell kind) cells = pushed (at + 1) cells (Some cell)
turn r at (Local number) cells = pushed (at + 1) cells (slice_get r.locals number)
turn r at (Load object axes) cells = pushed (at + 1) cells (option_map (r.cell object) (coordinate r.place r.fixed axes))
turn r at (Name dimension) cells = pushed (at + 1) cells (option_map (r.name dimension) (slot_at r.place dimension))
turn r at (NameOf dimension) cells = named (r.name dimension) (at + 1) cells
turn r at Add cells = on_two Adds (at + 1) cells
turn r at Sub cells = on_two Subtracts (at + 1) cells
turn r at Mul cells = on_two Multiplies (at + 1) cells
turn r at Div cells = on_two Divides (at + 1) cells
turn r at Neg cells = on_one Negates (at + 1) cells
turn r at Abs cells = on_one Sizes (at + 1) cells
turn r at Min cells = on_two TakesLeast (at + 1) cells
turn r at Max cells = on_two TakesGreatest (at + 1) cells
turn r at NaFill cells = on_two Fills (at + 1) cells
turn r at (Convert kind) cells = on_one (Converts kind) (at + 1) cells
turn r at (Compare order) cells = on_two (Compares order) (at + 1) cells
turn r at And cells = on_two Joins (at + 1) cells
turn r at Or cells = on_two Offers (at + 1) cells
turn r at Not cells = on_one Inverts (at + 1) cells
turn r at (Branch at_no at_na) cells = on_branch (at + 1) at_no at_na cells
turn r at (Jump to) cells = Some (Ok (to, cells))

abbrev pub then_on : (Standing → Outcome) → Outcome → Outcome
then_on on None = None
then_on on (Some (Ok standing)) = on standing
then_on on (Some (Err why)) = Some (Err why)

-- the ops from a place on, one after the other: the next one is taken, and those before it are passed over
abbrev pub going : CodeInputs → ℕ → List Op → Standing → Outcome
going r at [] standing = Some (Ok standing)
going r at (op ∷ ops) standing =
    if at == standing.0 then then_on (going r (at + 1) ops) (turn r at op standing.1) else going r (at + 1) ops standing

-- a machine ends at the end of the ops, with one cell
abbrev pub sole : List Cell → Option (Result Cell Arith)
sole [] = None
sole (cell ∷ []) = Some (Ok cell)
sole (cell ∷ _ ∷ _) = None

abbrev pub ended : ℕ → Outcome → Option (Result Cell Arith)
ended count None = None
ended count (Some (Ok standing)) = if standing.0 == count then sole standing.1 else None
ended count (Some (Err why)) = Some (Err why)

-- the cell that code gives, or the refusal
abbrev pub meaning : CodeInputs → List Op → Option (Result Cell Arith)
meaning r ops = ended (length ops) (going r 0 ops (0, []))
