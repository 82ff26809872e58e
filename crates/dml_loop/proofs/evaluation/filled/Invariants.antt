use Rattle.std.proofs.Common.{◌≡◌, ◌≤◌, length}
use Rattle.std.specs.Prelude.{All, Result}
use Rattle.aw_cell.specs.declared.cell.Cell.{Cell}
use Rattle.dml_exec.specs.Meaning.{CodeInputs}
use Rattle.dml_loop.specs.declared.fault.LoopFault.{LoopFault}
use Rattle.dml_loop.specs.Loops.{Place}
use Rattle.dml_loop.specs.Evaluation.{cell_of, read_at, stored, assigned, CanLoop}
use Rattle.dml_loop.specs.inside.Progress.{behind}
use Rattle.dml_loop.proofs.evaluation.filled.Given as goal

abbrev pub invariant-loop-place : goal.invariant-loop-place
invariant-loop-place g l =
    let read : Place → CodeInputs = read_at (g.C.Cells.cell_at l.reading.cells.now) (g.C.Cells.name_at l.reading.cells.now) l.reading.fixed.now l.reading.locals.now in
    let value : Place → Result Cell LoopFault = λ at. cell_of l.reading.code.now (read at) in
    let becomes : Cell → Result Cell LoopFault = stored (g.C.Slots.slot_of l.reading.cells.now) l.target in
    record {
      same : behind l.entries (assigned value becomes l.places) ≡ behind l.initial.entries (assigned value becomes l.initial.places);
      few : All (λ (place : Place). length place ≤ 6) l.places;
      fits : CanLoop l.reading.code.now read l.places (g.C.Cells.may_read l.reading.cells.now) (g.C.Cells.may_name l.reading.cells.now);
      room : l.reading.code.now.deepest ≤ l.stack.room;
    }

abbrev pub decreases-loop-place : goal.decreases-loop-place
decreases-loop-place g l = length l.places
