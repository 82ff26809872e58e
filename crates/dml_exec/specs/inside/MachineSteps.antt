-- What the steps of a run need, and where it stands.
use Rattle.std.specs.Prelude.{◌≡◌, ℕ, ◌∷◌, [], ◌≤◌, List, length, drop, Some, None, Result, Ok, Err, IsTrue}
use Rattle.aw_cell.specs.declared.cell.Cell.{Cell}
use Rattle.aw_cell.specs.declared.cell.Kind.{Kind}
use Rattle.aw_cell.specs.declared.number.Arith.{Arith}
use Rattle.aw_page.specs.Fitting.{is_of_kind}
use Rattle.dml_exec.specs.declared.code.Code.{Code}
use Rattle.dml_exec.specs.declared.op.Op.{Op}
use Rattle.dml_exec.specs.declared.op.Op.TheVariants.{Load, Name, NameOf}
use Rattle.dml_exec.specs.Meaning.{CodeInputs, Standing, Outcome, going}
use Rattle.dml_exec.specs.CodeRuns.{CanRun, rules_for}
use Rattle.dml_exec.specs.Verified.{Reaches}

-- the machine isn't stuck, and there is room for the cells that it then has
abbrev pub IsRoomy : ℕ → Result Standing Arith → Type 0
IsRoomy room (Ok standing) = length standing.1 ≤ room
IsRoomy room (Err why) = Unit {0}

abbrev pub CanTurn : ℕ → Outcome → Type 0
CanTurn room None = ⊥
CanTurn room (Some outcome) = IsRoomy room outcome

-- what an op asks for may be asked for
abbrev pub MayTurn : (ℕ → List ℕ → Type 0) → (ℕ → ℕ → Type 0) → Op → Type 0
MayTurn may_read may_name (Load object axes) = (slots : List ℕ) → length slots ≡ length axes → may_read object slots
MayTurn may_read may_name (Name dimension) = (slot : ℕ) → may_name dimension slot
MayTurn may_read may_name (NameOf dimension) = (slot : ℕ) → may_name dimension slot
MayTurn may_read may_name _ = Unit {0}

-- where a step ends, as the stack and its answer have it
abbrev pub stood : List Cell → Result ℕ Arith → Result Standing Arith
stood cells (Ok next) = Ok (next, cells)
stood cells (Err why) = Err why

-- cells of these kinds, or NA
abbrev pub AreOf : List Kind → List Cell → Type 0
AreOf [] [] = Unit {0}
AreOf (kind ∷ kinds) (cell ∷ cells) = IsTrue (is_of_kind kind cell) × AreOf kinds cells
AreOf _ _ = ⊥

-- a run stands where its place is reached with the kinds of its cells, and it has the meaning still before it
pub record Stands (code : Code) (r : CodeInputs) (may_read : ℕ → List ℕ → Type 0) (may_name : ℕ → ℕ → Type 0) (next : ℕ) (cells : List Cell) : Type 0 where
  pub can : CanRun code r may_read may_name
  pub within : next ≤ length code.ops
  pub stack : List Kind
  pub reached : Reaches (rules_for can.kinds code) next stack
  pub cells_are : AreOf stack cells
  pub same : going r 0 code.ops (0, []) ≡ going r next (drop next code.ops) (next, cells)
