-- What SHOW prints, and what an assignment writes, by the view of a session.
use Rattle.std.specs.Prelude.{ℕ, ◌==◌, cond, List, [], ◌∷◌, length, map, nat_le, find, Option, Some, None, Result, Ok, Err, unwrap_or}
use Rattle.std.specs.List.{list_all}
use Rattle.aw_cell.specs.declared.cell.Cell.{Cell}
use Rattle.aw_cell.specs.declared.cell.Kind.{Kind}
use Rattle.aw_cell.specs.declared.cell.Kind.TheVariants.{Slot}
use Rattle.aw_cell.specs.declared.number.Arith.TheVariants.{Overflow}
use Rattle.aw_var.specs.CellMap.{Cells}
use Rattle.mv_view.specs.ViewState.{ViewState}
use Rattle.dml_kinds.specs.declared.checking.TypedExpr.{TypedExpr}
use Rattle.dml_kinds.specs.declared.tree.Tree.{Tree}
use Rattle.dml_exec.specs.declared.kinds.Fix.{Fix}
use Rattle.dml_compile.specs.Compiled.{tree_fixes}
use Rattle.dml_compile.specs.Values.{tree_value}
use Rattle.dml_loop.specs.declared.conversion.Target.{Target}
use Rattle.dml_loop.specs.declared.conversion.Target.TheVariants as target
use Rattle.dml_loop.specs.declared.fault.LoopFault.{LoopFault}
use Rattle.dml_loop.specs.declared.fault.LoopFault.TheVariants.{Arith, TooMany}
use Rattle.dml_loop.specs.Evaluation.{or_refused, stored, assigned, shown}
use Rattle.dml_loop.specs.Fixes.{slots_of_fixes}
use Rattle.dml_loop.specs.Loops.{Place, places, combinations, on_ok}
use Rattle.ses_value.specs.declared.target.AssignedTo.{AssignedTo}
use Rattle.ses_value.specs.Held.{is_held}
use Rattle.ses_value.specs.Seeing.{slot_in, status_in, seen_in}

-- the kind of the cells of what is assigned to; those of a relation are slots
abbrev pub target_kind : Target → Kind
target_kind (target.Kind kind) = kind
target_kind (target.Relation dimension) = Slot

module _ (view : ViewState) where
  -- ---- an expression

  -- the value of an expression at a place. There are no formulas yet
  abbrev pub value_in : Tree → Place → Result Cell LoopFault
  value_in tree place = or_refused (tree_value [] (seen_in view) place tree)

  -- fixed values are looked up before anything is evaluated
  abbrev pub looked_up : {A : Type 0} → List Fix → Result A LoopFault → Result A LoopFault
  looked_up fixes answer = on_ok (λ (slots : List ℕ). answer) (slots_of_fixes (slot_in view) fixes)

  -- each of these dimensions with its status
  abbrev pub lists_in : List ℕ → List (ℕ × List ℕ)
  lists_in dimensions = map (λ dimension. (dimension, status_in view dimension)) dimensions

  -- SHOW: the cell at the first status value of each free dimension
  abbrev pub shown_in : TypedExpr → Result Cell LoopFault
  shown_in expression =
      looked_up (tree_fixes [] expression.tree) (shown (value_in expression.tree) (lists_in expression.dimensions))

  -- ---- an assignment

  -- the slot of a fixed value
  abbrev pub slot_fixed : Fix → ℕ
  slot_fixed fix = unwrap_or (slot_in view fix.dimension fix.value) 0

  -- the slots of a dimension over which an assignment goes: the one that is fixed, or else the status
  abbrev pub slots_for : Option Fix → ℕ → List ℕ
  slots_for (Some fix) dimension = slot_fixed fix ∷ []
  slots_for None dimension = status_in view dimension

  abbrev pub list_for : List Fix → ℕ → ℕ × List ℕ
  list_for fixes dimension = (dimension, slots_for (find (λ (fix : Fix). fix.dimension == dimension) fixes) dimension)

  abbrev pub target_lists : AssignedTo → List (ℕ × List ℕ)
  target_lists to = map (list_for to.fixes) to.dimensions

  -- at most 4,194,304 cells are assigned at once
  abbrev pub within : List (ℕ × List ℕ) → Result Cells LoopFault → Result Cells LoopFault
  within lists cells = cond (nat_le (combinations lists) 4194304) cells (Err TooMany)

  -- what the target can't hold is out of range
  abbrev pub held : AssignedTo → Cells → Result Cells LoopFault
  held to cells = cond (list_all (is_held (length to.dimensions) (target_kind to.target)) cells) (Ok cells) (Err (Arith Overflow))

  -- the cells in loop order, all evaluated and converted before any is written
  abbrev pub assigned_in : AssignedTo → TypedExpr → Result Cells LoopFault
  assigned_in to expression =
      looked_up to.fixes (looked_up (tree_fixes [] expression.tree)
      (within (target_lists to) (on_ok (held to) (assigned (value_in expression.tree) (stored (slot_in view) to.target) (places (target_lists to))))))
