use Rattle.std.proofs.Common.{◌≤◌, ℕ, List, drop, length, Result, sym, subst}
use Rattle.aw_cell.specs.declared.cell.Cell.{Cell}
use Rattle.dml_exec.specs.Meaning.{CodeInputs}
use Rattle.dml_loop.specs.declared.fault.LoopFault.{LoopFault}
use Rattle.dml_loop.specs.Evaluation.{read_at, cell_of, stored, entry_of}
use Rattle.dml_loop.specs.Loops.{Place, all_of}
use Rattle.dml_loop.specs.inside.Progress.{behind}
use Rattle.dml_loop.proofs.AllOf.{fill-more, each-left}
use Rattle.dml_loop.proofs.EachPlace.{runs-at, loops-left}
use Rattle.dml_loop.proofs.evaluation.filled.Goals as goal

pub entry_at-requires-clause-fits : goal.entry_at-requires-clause-fits
entry_at-requires-clause-fits g c =
    let cells = c.args.reading.now.cells.now in
    runs-at c.args.reading.now.code.now (read_at (g.C.Cells.cell_at cells) (g.C.Cells.name_at cells) c.args.reading.now.fixed.now c.args.reading.now.locals.now) c.in-Some.place.now c.loop-place.places (drop 1 c.loop-place.places) (g.C.Cells.may_read cells) (g.C.Cells.may_name cells) c.in-Some.ensures c.loop-place.invariant.fits

pub loop-place-preserved : goal.loop-place-preserved
loop-place-preserved g c =
    let cells = c.args.reading.now.cells.now in
    let read : Place → CodeInputs = read_at (g.C.Cells.cell_at cells) (g.C.Cells.name_at cells) c.args.reading.now.fixed.now c.args.reading.now.locals.now in
    let entry : Place → Result (List ℕ × Cell) LoopFault = entry_of (λ (at : Place). cell_of c.args.reading.now.code.now (read at)) (stored (g.C.Slots.slot_of cells) c.args.target) in
    record {
      same = fill-more entry c.loop-place.entries c.push.new.self c.loop-place.places c.advance.new.self c.in-Some.place.now c.in_ok-entry.entry (behind c.args.entries (all_of entry c.args.places)) c.in-Some.ensures c.advance.ensures c.in_ok-entry.ensures.entry c.in_ok-push.ensures.ok c.loop-place.invariant.same;
      few = each-left (λ (place : Place). length place ≤ 6) c.loop-place.places c.advance.new.self c.in-Some.place.now c.in-Some.ensures c.advance.ensures c.loop-place.invariant.few;
      fits = loops-left c.args.reading.now.code.now read c.in-Some.place.now c.loop-place.places c.advance.new.self (g.C.Cells.may_read cells) (g.C.Cells.may_name cells) c.in-Some.ensures c.advance.ensures c.loop-place.invariant.fits;
      room = subst (λ (room : ℕ). c.args.reading.now.code.now.deepest ≤ room) (sym c.in_ok-entry.ensures.room) c.loop-place.invariant.room;
    }
