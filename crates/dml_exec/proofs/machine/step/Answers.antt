use Rattle.std.proofs.Common.{◌≡◌, ◌∙◌, ℕ, ◌+◌, Some, sym, ap, subst, get_or}
use Rattle.std.specs.List.{slice_get}
use Rattle.dml_exec.specs.declared.op.Op.{Op}
use Rattle.dml_exec.specs.declared.op.Op.TheVariants.{Load}
use Rattle.dml_exec.specs.Meaning.{CodeInputs, code_inputs, turn, pushed, coordinate}
use Rattle.dml_exec.specs.inside.MachineSteps.{CanTurn, MayTurn}
use Rattle.dml_exec.proofs.AxisSlots.{coordinate-length, local-is}
use Rattle.dml_exec.proofs.machine.step.Goals as goal

pub cell-requires : goal.cell-requires
cell-requires g c =
    let may : MayTurn (g.C.Cells.may_read c.args.cells.now) (g.C.Cells.may_name c.args.cells.now) (Load c.in-Load.object c.in-Load.axes) = subst (λ (op : Op). MayTurn (g.C.Cells.may_read c.args.cells.now) (g.C.Cells.may_name c.args.cells.now) op) c.in-Load.is c.requires.asks in
    may c.coordinate-slots.result
    (coordinate-length c.args.place.now c.args.fixed.now c.in-Load.axes c.coordinate-slots.result (ap (coordinate c.args.place.now c.args.fixed.now) (sym c.as_slice.ensures) ∙ c.coordinate-slots.ensures))

pub returns-in-Local-clause-turned : goal.returns-in-Local-clause-turned
returns-in-Local-clause-turned g c =
    let r : CodeInputs = code_inputs (g.C.Cells.cell_at c.args.cells.now) (g.C.Cells.name_at c.args.cells.now) c.args.place.now c.args.fixed.now c.args.locals.now in
    let cells = c.args.stack.now.cells in
    let locals = c.args.locals.now in
    let cell = c.index-locals-from.result in
    let can : CanTurn c.args.stack.now.room (pushed (c.args.at + 1) cells (slice_get locals c.in-Local.number)) = subst (λ (op : Op). CanTurn c.args.stack.now.room (turn r c.args.at op cells)) c.in-Local.is c.requires.turns in
    let is : slice_get locals c.in-Local.number ≡ Some cell = local-is c.args.stack.now.room (c.args.at + 1) cells locals c.in-Local.number cell can (c.index-locals-from.is ∙ ap (λ (n : ℕ). get_or locals n cell) c.from.ensures) in
    ap (λ (op : Op). turn r c.args.at op cells) c.in-Local.is ∙ ap (pushed (c.args.at + 1) cells) is ∙ c.put-in-Local.ensures.turned
