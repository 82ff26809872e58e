-- Which code is accepted. An op is reached with a list of kinds, that of the last cell first, where ops before it lead
-- there. It is bad where it can't take such a list, or is reached with two different ones.
use Rattle.std.specs.Prelude.{◌≡◌, ◌≢◌, ℕ, suc, zero, ◌+◌, ◌==◌, ◌<◌, ◌&&◌, ◌⊎◌, ◌∷◌, [], Bool as Truth, true, false, List, length, Option, Some, None, option_map, slice_get, nat_le, nat_lt}
use Rattle.std.specs.List.{list_all}
use Rattle.aw_cell.specs.declared.cell.Kind.{Kind}
use Rattle.aw_cell.specs.declared.cell.Kind.TheVariants.{Text as TextKind, Bool as BooleanKind, Slot as SlotKind}
use Rattle.aw_page.specs.Fitting.{is_of_kind}
use Rattle.dml_exec.specs.declared.kinds.Kinds.{Kinds}
use Rattle.dml_exec.specs.declared.kinds.ObjectKind.{ObjectKind}
use Rattle.dml_exec.specs.declared.kinds.ObjectKind.TheVariants.{Dimension, Cells}
use Rattle.dml_exec.specs.declared.flow.Way.{Way}
use Rattle.dml_exec.specs.declared.flow.Way.TheVariants.{Next, Leap, Fork}
use Rattle.dml_exec.specs.declared.op.Axis.{Axis}
use Rattle.dml_exec.specs.declared.op.Axis.TheVariants.{Free, Fixed}
use Rattle.dml_exec.specs.declared.op.Op.{Op}
use Rattle.dml_exec.specs.declared.op.Op.TheVariants.{Push, Local, Load, Name, NameOf, Add, Sub, Mul, Div, Neg, Abs, Min, Max, NaFill, Convert, Compare, And, Or, Not, Branch, Jump}
use Rattle.dml_exec.specs.declared.operator.Unary.{Unary}
use Rattle.dml_exec.specs.declared.operator.Unary.TheVariants.{Neg as Negates, Abs as Sizes, Convert as Converts, Not as Inverts}
use Rattle.dml_exec.specs.declared.operator.Binary.{Binary}
use Rattle.dml_exec.specs.declared.operator.Binary.TheVariants.{Add as Adds, Sub as Subtracts, Mul as Multiplies, Div as Divides, Min as TakesLeast, Max as TakesGreatest, NaFill as Fills, Compare as Compares, And as Joins, Or as Offers}
use Rattle.dml_exec.specs.Operators.{when, kind_of_one, kind_of_two}

-- what ops are tested against: what they may name, how many fixes there are, and the ops
pub record Rules : Type 0 where
  pub kinds : Kinds
  pub fixes : ℕ
  pub ops : List Op

abbrev pub rules_of : Kinds → ℕ → List Op → Rules
rules_of kinds fixes ops = record { kinds = kinds; fixes = fixes; ops = ops }

-- ---- what an op names

abbrev pub is_dimension_kind : Option ObjectKind → Truth
is_dimension_kind (Some Dimension) = true
is_dimension_kind _ = false

abbrev pub is_dimension : Kinds → ℕ → Truth
is_dimension kinds object = is_dimension_kind (slice_get kinds.objects object)

abbrev pub is_axis : Kinds → ℕ → Axis → Truth
is_axis kinds fixes (Free dimension) = is_dimension kinds dimension
is_axis kinds fixes (Fixed fix) = nat_lt fix fixes

-- as many axes as the object has dimensions, at most 6, and each names something
abbrev pub are_axes : Kinds → ℕ → List ℕ → List Axis → Truth
are_axes kinds fixes dimensions axes =
    (length axes == length dimensions) && nat_le (length axes) 6 && list_all (is_axis kinds fixes) axes

-- the kind of the cells that an object has at these axes
abbrev pub kind_read : Kinds → ℕ → List Axis → Option ObjectKind → Option Kind
kind_read kinds fixes axes (Some (Cells kind dimensions)) = when (are_axes kinds fixes dimensions axes) kind
kind_read kinds fixes axes _ = None

abbrev pub kind_named : Kinds → ℕ → Option Kind
kind_named kinds dimension = when (is_dimension kinds dimension) TextKind

-- ---- what an op makes of the kinds, and where it goes on

abbrev pub Onward : Type 0
Onward = Option (Way × List Kind)

abbrev pub kind_pushed : List Kind → Option Kind → Onward
kind_pushed stack kind = option_map (λ kind. (Next, kind ∷ stack)) kind

abbrev pub kinds_on_one : Unary → List Kind → Onward
kinds_on_one operator [] = None
kinds_on_one operator (a ∷ stack) = kind_pushed stack (kind_of_one operator a)

abbrev pub kinds_on_two : Binary → List Kind → Onward
kinds_on_two operator [] = None
kinds_on_two operator (b ∷ []) = None
kinds_on_two operator (b ∷ a ∷ stack) = kind_pushed stack (kind_of_two operator a b)

abbrev pub name_of_kind : Kinds → ℕ → Kind → Option Kind
name_of_kind kinds dimension SlotKind = kind_named kinds dimension
name_of_kind kinds dimension _ = None

abbrev pub kinds_named : Kinds → ℕ → List Kind → Onward
kinds_named kinds dimension [] = None
kinds_named kinds dimension (kind ∷ stack) = kind_pushed stack (name_of_kind kinds dimension kind)

-- a jump goes to a place greater than its own, at most the number of ops
abbrev pub is_ahead : ℕ → ℕ → ℕ → Truth
is_ahead count at to = nat_lt at to && nat_le to count

abbrev pub forked : ℕ → ℕ → ℕ → ℕ → List Kind → Onward
forked count at at_no at_na (BooleanKind ∷ stack) = when (is_ahead count at at_no && is_ahead count at at_na) (Fork at_no at_na, stack)
forked count at at_no at_na _ = None

-- from a list of kinds, by the op at a place: how it goes on, and with which kinds; `None` where it can't
abbrev pub onward : Rules → ℕ → Op → List Kind → Onward
onward r at (Push cell kind) stack = kind_pushed stack (when (is_of_kind kind cell) kind)
onward r at (Local number) stack = kind_pushed stack (slice_get r.kinds.locals number)
onward r at (Load object axes) stack = kind_pushed stack (kind_read r.kinds r.fixes axes (slice_get r.kinds.objects object))
onward r at (Name dimension) stack = kind_pushed stack (kind_named r.kinds dimension)
onward r at (NameOf dimension) stack = kinds_named r.kinds dimension stack
onward r at Add stack = kinds_on_two Adds stack
onward r at Sub stack = kinds_on_two Subtracts stack
onward r at Mul stack = kinds_on_two Multiplies stack
onward r at Div stack = kinds_on_two Divides stack
onward r at Neg stack = kinds_on_one Negates stack
onward r at Abs stack = kinds_on_one Sizes stack
onward r at Min stack = kinds_on_two TakesLeast stack
onward r at Max stack = kinds_on_two TakesGreatest stack
onward r at NaFill stack = kinds_on_two Fills stack
onward r at (Convert kind) stack = kinds_on_one (Converts kind) stack
onward r at (Compare order) stack = kinds_on_two (Compares order) stack
onward r at And stack = kinds_on_two Joins stack
onward r at Or stack = kinds_on_two Offers stack
onward r at Not stack = kinds_on_one Inverts stack
onward r at (Branch at_no at_na) stack = forked (length r.ops) at at_no at_na stack
onward r at (Jump to) stack = when (is_ahead (length r.ops) at to) (Leap to, stack)

-- a way goes from its own place to another
abbrev pub GoesTo : ℕ → Way → ℕ → Type 0
GoesTo at Next place = place ≡ at + 1
GoesTo at (Leap to) place = place ≡ to
GoesTo at (Fork at_no at_na) place = (place ≡ at_no) ⊎ ((place ≡ at_na) ⊎ (place ≡ at + 1))

-- ---- reached

-- an op leads from one list of kinds to a place with another
pub record Leads (r : Rules) (at : ℕ) (before : List Kind) (place : ℕ) (after : List Kind) : Type 0 where
  pub op : Op
  pub way : Way
  pub here : slice_get r.ops at ≡ Some op
  pub takes : onward r at op before ≡ Some (way, after)
  pub there : GoesTo at way place

-- the first ops, so many of them, lead to a place with a list of kinds: to the place 0 with none at first, and from an op
-- that is reached to where it leads
abbrev pub LeadTo : Rules → ℕ → ℕ → List Kind → Type 0
LeadTo r zero place stack = (place ≡ 0) × (stack ≡ [])
LeadTo r (suc at) place stack = LeadTo r at place stack ⊎ ((before : List Kind) × LeadTo r at at before × Leads r at before place stack)

-- an op, or the end, is reached with a list of kinds: the ops before it lead there
abbrev pub Reaches : Rules → ℕ → List Kind → Type 0
Reaches r at stack = LeadTo r at at stack

-- ---- bad, and accepted

-- an op can't take a list of kinds with which it is reached
pub record IsStuck (r : Rules) (at : ℕ) : Type 0 where
  pub op : Op
  pub stack : List Kind
  pub here : slice_get r.ops at ≡ Some op
  pub reached : Reaches r at stack
  pub stuck : onward r at op stack ≡ None

-- it is reached with two different lists
pub record IsTorn (r : Rules) (at : ℕ) : Type 0 where
  pub one : List Kind
  pub other : List Kind
  pub within : at < length r.ops
  pub by_one : Reaches r at one
  pub by_other : Reaches r at other
  pub differ : one ≢ other

abbrev pub IsBad : Rules → ℕ → Type 0
IsBad r at = IsStuck r at ⊎ IsTorn r at

-- the end is reached with another number of cells than one
pub record EndsBadly (r : Rules) (at : ℕ) : Type 0 where
  pub end : at ≡ length r.ops
  pub stack : List Kind
  pub reached : Reaches r at stack
  pub many : length stack ≢ 1

-- the first bad op, or the end, where no op is bad
pub record IsFirstFault (r : Rules) (at : ℕ) : Type 0 where
  pub first : (before : ℕ) → before < at → IsBad r before → ⊥
  pub here : IsBad r at ⊎ EndsBadly r at

-- no op is bad, and the end has just one cell
pub record IsSound (r : Rules) : Type 0 where
  pub ops : (at : ℕ) → IsBad r at → ⊥
  pub end : EndsBadly r (length r.ops) → ⊥
