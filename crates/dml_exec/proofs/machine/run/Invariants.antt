use Rattle.std.proofs.Common.{◌≡◌, ◌≤◌, ◌-◌, length}
use Rattle.dml_exec.specs.Meaning.{code_inputs}
use Rattle.dml_exec.specs.inside.MachineSteps.{Stands}
use Rattle.dml_exec.proofs.machine.run.Given as goal

abbrev pub invariant-loop-next : goal.invariant-loop-next
invariant-loop-next g l = record {
  stands : Stands l.code (code_inputs (g.C.Cells.cell_at l.cells) (g.C.Cells.name_at l.cells) l.at l.fixed l.locals) (g.C.Cells.may_read l.cells) (g.C.Cells.may_name l.cells) l.next l.stack.cells;
  deep : l.code.deepest ≤ l.stack.room;
  same : l.stack.room ≡ l.initial.stack.room;
}

abbrev pub decreases-loop-next : goal.decreases-loop-next
decreases-loop-next g l = length l.code.ops - l.next
