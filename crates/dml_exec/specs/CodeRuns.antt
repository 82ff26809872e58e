-- What a run asks of what it reads.
use Rattle.std.specs.Prelude.{◌≡◌, ℕ, ◌≤◌, ◌∷◌, [], List, length, Some, Result, slice_get, IsTrue, IsSome, IfOk}
use Rattle.std.specs.Option.{IsSomeAnd}
use Rattle.std.specs.List.{Contains}
use Rattle.aw_cell.specs.declared.cell.Cell.{Cell}
use Rattle.aw_cell.specs.declared.number.Arith.{Arith}
use Rattle.aw_cell.specs.declared.cell.Kind.{Kind}
use Rattle.aw_cell.specs.declared.cell.Kind.TheVariants.{Text as TextKind}
use Rattle.aw_page.specs.Fitting.{is_of_kind}
use Rattle.dml_exec.specs.declared.code.Code.{Code}
use Rattle.dml_exec.specs.declared.fault.CodeFault.{CodeFault}
use Rattle.dml_exec.specs.declared.fault.CodeFault.TheVariants.{Bad, NoMemory}
use Rattle.dml_exec.specs.declared.kinds.Kinds.{Kinds}
use Rattle.dml_exec.specs.declared.kinds.ObjectKind.TheVariants.{Dimension, Cells}
use Rattle.dml_exec.specs.declared.op.Op.TheVariants.{Local}
use Rattle.dml_exec.specs.Free.{free_dimensions, is_among}
use Rattle.dml_exec.specs.Meaning.{CodeInputs, slot_at, meaning}
use Rattle.dml_exec.specs.Verified.{Rules, rules_of, IsSound, IsFirstFault, Reaches}

abbrev pub rules_for : Kinds → Code → Rules
rules_for kinds code = rules_of kinds (length code.fixes) code.ops

-- code that was accepted: it is sound, has its free dimensions, and knows how many cells its stack holds at most
pub record Accepts (kinds : Kinds) (code : Code) : Type 0 where
  pub sound : IsSound (rules_for kinds code)
  pub free : code.free ≡ free_dimensions code.ops
  pub deepest : (at : ℕ) (stack : List Kind) → Reaches (rules_for kinds code) at stack → length stack ≤ code.deepest

-- what code reads is there, and of the kinds over which it was accepted, or NA
pub record Fits (kinds : Kinds) (code : Code) (r : CodeInputs) : Type 0 where
  pub places : (dimension : ℕ) → IsTrue (is_among code.free dimension) → IsSome (slot_at r.place dimension)
  pub fixed : length code.fixes ≤ length r.fixed
  pub locals : (number : ℕ) (kind : Kind) → Contains code.ops (Local number) → slice_get kinds.locals number ≡ Some kind → IsSomeAnd (slice_get r.locals number) (λ cell. IsTrue (is_of_kind kind cell))
  pub cells : (object : ℕ) (kind : Kind) (dimensions slots : List ℕ) → slice_get kinds.objects object ≡ Some (Cells kind dimensions) → length slots ≡ length dimensions → IsTrue (is_of_kind kind (r.cell object slots))
  pub names : (dimension slot : ℕ) → slice_get kinds.objects dimension ≡ Some Dimension → IsTrue (is_of_kind TextKind (r.name dimension slot))

-- a cell may be asked for at each coordinate of its object, and the name of each slot of a dimension
pub record MayAsk (kinds : Kinds) (may_read : ℕ → List ℕ → Type 0) (may_name : ℕ → ℕ → Type 0) : Type 0 where
  pub cells : (object : ℕ) (kind : Kind) (dimensions slots : List ℕ) → slice_get kinds.objects object ≡ Some (Cells kind dimensions) → length slots ≡ length dimensions → may_read object slots
  pub names : (dimension slot : ℕ) → slice_get kinds.objects dimension ≡ Some Dimension → may_name dimension slot

-- code that was accepted over some kinds, and what fits these
pub record CanRun (code : Code) (r : CodeInputs) (may_read : ℕ → List ℕ → Type 0) (may_name : ℕ → ℕ → Type 0) : Type 0 where
  pub kinds : Kinds
  pub accepted : Accepts kinds code
  pub fits : Fits kinds code r
  pub may_ask : MayAsk kinds may_read may_name

-- a refusal tells the first fault, or want of memory
abbrev pub FaultsAt : Rules → CodeFault → Type 0
FaultsAt r (Bad at) = IsFirstFault r at
FaultsAt r NoMemory = Unit {0}

-- ---- a law

-- an answer is a refusal, or a cell of a kind with which the end is reached alone
pub record EndsWith (r : Rules) (cell : Cell) : Type 0 where
  pub kind : Kind
  pub reached : Reaches r (length r.ops) (kind ∷ [])
  pub of_kind : IsTrue (is_of_kind kind cell)

pub record IsAnswered (kinds : Kinds) (code : Code) (r : CodeInputs) : Type 0 where
  pub answer : Result Cell Arith
  pub means : meaning r code.ops ≡ Some answer
  pub ends : IfOk answer (EndsWith (rules_for kinds code))

-- accepted code is never stuck: on all that fits it gives a cell or a refusal, and the cell is of the kind that the end
-- has, or NA
abbrev pub AcceptedCodeIsNeverStuck : Type 0
AcceptedCodeIsNeverStuck = (kinds : Kinds) (code : Code) (r : CodeInputs) → Accepts kinds code → Fits kinds code r → IsAnswered kinds code r
