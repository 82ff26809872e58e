-- Code that reads a session's view.
use Rattle.std.specs.Prelude.{ℕ, ◌≡◌, List, [], Result, Ok}
use Rattle.std.specs.Option.{IsSomeAnd}
use Rattle.aw_cell.specs.declared.cell.Cell.{Cell}
use Rattle.aw_schema.specs.declared.definition.Def.{Def}
use Rattle.aw_var.specs.CellMap.{Cells}
use Rattle.mv_view.specs.ViewState.{ViewState, AreSeen, object_of, kinds_of, kept_kinds, IsKeyOf}
use Rattle.mv_view.specs.Rules.{read}
use Rattle.dml_kinds.specs.declared.checking.TypedExpr.{TypedExpr}
use Rattle.dml_exec.specs.declared.code.Code.{Code}
use Rattle.dml_exec.specs.Meaning.{CodeInputs}
use Rattle.dml_compile.specs.Compiled.{Compiles}
use Rattle.dml_compile.specs.FormulasView.{kinds_with}
use Rattle.dml_compile.specs.Objects.{object_kinds}
use Rattle.dml_loop.specs.declared.conversion.Target.{Target}
use Rattle.dml_loop.specs.declared.fault.LoopFault.{LoopFault}
use Rattle.dml_loop.specs.Evaluation.{read_at, cell_of, stored, assigned, CanLoop}
use Rattle.dml_loop.specs.Fixes.{slots_of_fixes}
use Rattle.dml_loop.specs.Loops.{Place, places}
use Rattle.ses_value.specs.Expressions.{IsOfALine}
use Rattle.ses_value.specs.Seeing.{slot_in, name_in}

-- what it reads at a place, where these slots were looked up
abbrev pub inputs : ViewState → List ℕ → Place → CodeInputs
inputs view fixed place = read_at (read view) (name_in view) fixed [] place

abbrev pub code_value : ViewState → Code → List ℕ → Place → Result Cell LoopFault
code_value view code fixed place = cell_of code (inputs view fixed place)

-- a cell may be asked for at a key of its object
abbrev pub MayRead : ViewState → ℕ → List ℕ → Type 0
MayRead view object at = IsSomeAnd (object_of view object) (λ found. IsKeyOf found.kind at)

abbrev pub MayName : ViewState → ℕ → ℕ → Type 0
MayName view dimension slot = Unit {0}

-- code of a line's expression, with the slots of its fixed values: what is known where it is run
pub record IsPrepared (view : ViewState) (definitions : List Def) (expression : TypedExpr) (code : Code) (fixed : List ℕ) : Type 0 where
  pub seen : AreSeen view.objects
  pub sees : kinds_of view ≡ kept_kinds definitions
  pub line : IsOfALine expression
  pub compiled : Compiles [] (kinds_with (object_kinds definitions) expression.locals) expression.tree code
  pub found : slots_of_fixes (slot_in view) code.fixes ≡ Ok fixed

-- it can be run at each of these places
abbrev pub Runs : ViewState → Code → List ℕ → List Place → Type 0
Runs view code fixed all = CanLoop code (inputs view fixed) all (MayRead view) (MayName view)

-- what is stored at all combinations of lists, by the value at each
abbrev pub stored_at : ViewState → Target → (Place → Result Cell LoopFault) → List (ℕ × List ℕ) → Result Cells LoopFault
stored_at view target value lists = assigned value (stored (slot_in view) target) (places lists)
