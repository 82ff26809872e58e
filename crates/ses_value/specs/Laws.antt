-- What holds of assignments, and of what is shown.
use Rattle.std.specs.Prelude.{◌≡◌, ℕ, ◌≤◌, List, [], length, map, Ok, Err, IsTrue}
use Rattle.std.specs.List.{list_all}
use Rattle.aw_var.specs.CellMap.{Cells}
use Rattle.mv_view.specs.ViewState.{ViewState, AreSeen}
use Rattle.dml_kinds.specs.declared.checking.TypedExpr.{TypedExpr}
use Rattle.dml_compile.specs.Compiled.{tree_fixes}
use Rattle.dml_loop.specs.declared.fault.LoopFault.{LoopFault}
use Rattle.dml_loop.specs.Evaluation.{slots_at}
use Rattle.dml_loop.specs.Fixes.{slots_of_fixes}
use Rattle.dml_loop.specs.Laws.{AreApart}
use Rattle.dml_loop.specs.Loops.{places, combinations}
use Rattle.ses_value.specs.declared.target.AssignedTo.{AssignedTo}
use Rattle.ses_value.specs.Evaluating.{target_kind, target_lists, assigned_in, shown_in}
use Rattle.ses_value.specs.Held.{is_held}
use Rattle.ses_value.specs.Seeing.{slot_in}

-- one cell at each combination of the lists, in loop order, none twice, and all of them such that the object can hold them
pub record IsLoopWritten (view : ViewState) (to : AssignedTo) (cells : Cells) : Type 0 where
  pub at_places : map (λ entry. entry.0) cells ≡ map slots_at (places (target_lists view to))
  pub count : length cells ≡ combinations (target_lists view to)
  pub most : length cells ≤ 4194304
  pub once : AreApart (map (λ entry. entry.0) cells)
  pub held : IsTrue (list_all (is_held (length to.dimensions) (target_kind to.target)) cells)

abbrev pub AssignmentsWriteTheirLoop : Type 0
AssignmentsWriteTheirLoop = (view : ViewState) (to : AssignedTo) (expression : TypedExpr) (cells : Cells) → AreSeen view.objects → assigned_in view to expression ≡ Ok cells → IsLoopWritten view to cells

-- a fixed value that its dimension lacks is refused before anything is evaluated, those of a target first
pub record FixedValuesComeFirst : Type 0 where
  pub target : (view : ViewState) (to : AssignedTo) (expression : TypedExpr) (why : LoopFault) → slots_of_fixes (slot_in view) to.fixes ≡ Err why → assigned_in view to expression ≡ Err why
  pub assigned : (view : ViewState) (to : AssignedTo) (expression : TypedExpr) (slots : List ℕ) (why : LoopFault) → slots_of_fixes (slot_in view) to.fixes ≡ Ok slots → slots_of_fixes (slot_in view) (tree_fixes [] expression.tree) ≡ Err why → assigned_in view to expression ≡ Err why
  pub shown : (view : ViewState) (expression : TypedExpr) (why : LoopFault) → slots_of_fixes (slot_in view) (tree_fixes [] expression.tree) ≡ Err why → shown_in view expression ≡ Err why
