use Rattle.std.proofs.Common.{◌≡◌, ◌∙◌, ℕ, ◌-◌, ◌<◌, ◌≤◌, List, [], ◌∷◌, length, Some, Ok, Err, refl, sym, ap, subst, arith}
use Rattle.std.specs.List.{slice_get}
use Rattle.std.proofs.lemmas.Option.{slice_get_read}
use Rattle.std.proofs.lemmas.Result.{err_from_is_err_and}
use Rattle.aw_cell.specs.declared.cell.Cell.{Cell}
use Rattle.dml_exec.specs.Meaning.{CodeInputs, code_inputs, turn}
use Rattle.dml_exec.specs.inside.MachineSteps.{CanTurn, Stands}
use Rattle.dml_exec.proofs.AllowedReads.{stands-asks}
use Rattle.dml_exec.proofs.CodeSteps.{stands-first, stands-turns, stands-on, stands-refused, stands-ended}
use Rattle.dml_exec.proofs.machine.run.Goals as goal

pub loop-next-init : goal.loop-next-init
loop-next-init g c =
    let code = c.args.code.now in
    let r : CodeInputs = code_inputs (g.C.Cells.cell_at c.args.cells.now) (g.C.Cells.name_at c.args.cells.now) c.args.at.now c.args.fixed.now c.args.locals.now in
    let may_read = g.C.Cells.may_read c.args.cells.now in
    let may_name = g.C.Cells.may_name c.args.cells.now in
    record {
      stands = subst (λ (cells : List Cell). Stands code r may_read may_name 0 cells) (sym c.clear.ensures.cells) (stands-first code r may_read may_name c.requires.fits);
      deep = omega (arith, c.requires.room, c.clear.ensures.room);
      same = refl;
    }

pub step-requires-clause-turns : goal.step-requires-clause-turns
step-requires-clause-turns g c =
    let code = c.args.code.now in
    let r : CodeInputs = code_inputs (g.C.Cells.cell_at c.args.cells.now) (g.C.Cells.name_at c.args.cells.now) c.args.at.now c.args.fixed.now c.args.locals.now in
    let may_read = g.C.Cells.may_read c.args.cells.now in
    let may_name = g.C.Cells.may_name c.args.cells.now in
    let ops = c.as_slice-ops.result.now in
    let op = c.index-ops-next.result in
    let next = c.loop-next.next in
    let within : next < length ops = c.loop-next-test.true in
    let is : slice_get code.ops next ≡ Some op = sym (ap (λ xs. slice_get xs next) c.as_slice-ops.ensures) ∙ slice_get_read ops (length ops) next op refl within c.index-ops-next.is in
    subst (λ (place : List (ℕ × ℕ)). CanTurn c.loop-next.stack.room (turn (code_inputs (g.C.Cells.cell_at c.args.cells.now) (g.C.Cells.name_at c.args.cells.now) place c.args.fixed.now c.args.locals.now) next op c.loop-next.stack.cells)) (sym c.as_slice.ensures)
    (stands-turns code r may_read may_name c.loop-next.stack.room next c.loop-next.stack.cells op c.loop-next.invariant.deep c.loop-next.invariant.stands is)

pub step-requires-clause-asks : goal.step-requires-clause-asks
step-requires-clause-asks g c =
    let code = c.args.code.now in
    let r : CodeInputs = code_inputs (g.C.Cells.cell_at c.args.cells.now) (g.C.Cells.name_at c.args.cells.now) c.args.at.now c.args.fixed.now c.args.locals.now in
    let ops = c.as_slice-ops.result.now in
    let op = c.index-ops-next.result in
    let next = c.loop-next.next in
    let within : next < length ops = c.loop-next-test.true in
    let is : slice_get code.ops next ≡ Some op = sym (ap (λ xs. slice_get xs next) c.as_slice-ops.ensures) ∙ slice_get_read ops (length ops) next op refl within c.index-ops-next.is in
    stands-asks code r (g.C.Cells.may_read c.args.cells.now) (g.C.Cells.may_name c.args.cells.now) next c.loop-next.stack.cells op c.loop-next.invariant.stands is

pub returns-in_err-next-clause-value : goal.returns-in_err-next-clause-value
returns-in_err-next-clause-value g c =
    let code = c.args.code.now in
    let r : CodeInputs = code_inputs (g.C.Cells.cell_at c.args.cells.now) (g.C.Cells.name_at c.args.cells.now) c.args.at.now c.args.fixed.now c.args.locals.now in
    let ops = c.as_slice-ops.result.now in
    let op = c.index-ops-next.result in
    let next = c.loop-next.next in
    let why = c.in_err-next.field-0.0 in
    let within : next < length ops = c.loop-next-test.true in
    let is : slice_get code.ops next ≡ Some op = sym (ap (λ xs. slice_get xs next) c.as_slice-ops.ensures) ∙ slice_get_read ops (length ops) next op refl within c.index-ops-next.is in
    let turned : turn r next op c.loop-next.stack.cells ≡ Some (Err why) = ap (λ (place : List (ℕ × ℕ)). turn (code_inputs (g.C.Cells.cell_at c.args.cells.now) (g.C.Cells.name_at c.args.cells.now) place c.args.fixed.now c.args.locals.now) next op c.loop-next.stack.cells) (sym c.as_slice.ensures) ∙ c.in_err-next.ensures.turned in
    let failed = err_from_is_err_and c.from_residual.result c.from_residual.ensures.1 in
    rw (failed.1, failed.2)
    (stands-refused code r (g.C.Cells.may_read c.args.cells.now) (g.C.Cells.may_name c.args.cells.now) next c.loop-next.stack.cells op why c.loop-next.invariant.stands is turned)

pub returns-in_err-next-clause-room : goal.returns-in_err-next-clause-room
returns-in_err-next-clause-room g c = c.in_err-next.ensures.room ∙ c.loop-next.invariant.same ∙ c.clear.ensures.room

pub loop-next-smaller : goal.loop-next-smaller
loop-next-smaller g c =
    let code = c.args.code.now in
    let r : CodeInputs = code_inputs (g.C.Cells.cell_at c.args.cells.now) (g.C.Cells.name_at c.args.cells.now) c.args.at.now c.args.fixed.now c.args.locals.now in
    let ops = c.as_slice-ops.result.now in
    let op = c.index-ops-next.result in
    let next = c.loop-next.next in
    let place = c.in_ok-next.next in
    let within : next < length ops = c.loop-next-test.true in
    let is : slice_get code.ops next ≡ Some op = sym (ap (λ xs. slice_get xs next) c.as_slice-ops.ensures) ∙ slice_get_read ops (length ops) next op refl within c.index-ops-next.is in
    let turned : turn r next op c.loop-next.stack.cells ≡ Some (Ok (place, c.step.new.stack.cells)) = ap (λ (at : List (ℕ × ℕ)). turn (code_inputs (g.C.Cells.cell_at c.args.cells.now) (g.C.Cells.name_at c.args.cells.now) at c.args.fixed.now c.args.locals.now) next op c.loop-next.stack.cells) (sym c.as_slice.ensures) ∙ c.in_ok-next.ensures.turned in
    let on = stands-on code r (g.C.Cells.may_read c.args.cells.now) (g.C.Cells.may_name c.args.cells.now) next c.loop-next.stack.cells op place c.step.new.stack.cells c.loop-next.invariant.stands is turned in
    let further : next < place = on.1 in
    let count : length ops ≡ length code.ops = ap length c.as_slice-ops.ensures in
    let less : length code.ops - place < length code.ops - next = omega arith in
    less

pub loop-next-preserved : goal.loop-next-preserved
loop-next-preserved g c =
    let code = c.args.code.now in
    let r : CodeInputs = code_inputs (g.C.Cells.cell_at c.args.cells.now) (g.C.Cells.name_at c.args.cells.now) c.args.at.now c.args.fixed.now c.args.locals.now in
    let ops = c.as_slice-ops.result.now in
    let op = c.index-ops-next.result in
    let next = c.loop-next.next in
    let place = c.in_ok-next.next in
    let within : next < length ops = c.loop-next-test.true in
    let is : slice_get code.ops next ≡ Some op = sym (ap (λ xs. slice_get xs next) c.as_slice-ops.ensures) ∙ slice_get_read ops (length ops) next op refl within c.index-ops-next.is in
    let turned : turn r next op c.loop-next.stack.cells ≡ Some (Ok (place, c.step.new.stack.cells)) = ap (λ (at : List (ℕ × ℕ)). turn (code_inputs (g.C.Cells.cell_at c.args.cells.now) (g.C.Cells.name_at c.args.cells.now) at c.args.fixed.now c.args.locals.now) next op c.loop-next.stack.cells) (sym c.as_slice.ensures) ∙ c.in_ok-next.ensures.turned in
    let on = stands-on code r (g.C.Cells.may_read c.args.cells.now) (g.C.Cells.may_name c.args.cells.now) next c.loop-next.stack.cells op place c.step.new.stack.cells c.loop-next.invariant.stands is turned in
    let deep : code.deepest ≤ c.loop-next.stack.room = c.loop-next.invariant.deep in
    let kept : c.step.new.stack.room ≡ c.loop-next.stack.room = c.in_ok-next.ensures.room in
    record {
      stands = on.0;
      deep = omega arith;
      same = kept ∙ c.loop-next.invariant.same;
    }

pub pop-requires : goal.pop-requires
pop-requires g c =
    let code = c.args.code.now in
    let r : CodeInputs = code_inputs (g.C.Cells.cell_at c.args.cells.now) (g.C.Cells.name_at c.args.cells.now) c.args.at.now c.args.fixed.now c.args.locals.now in
    let count : length c.as_slice-ops.result.now ≡ length code.ops = ap length c.as_slice-ops.ensures in
    let past : length code.ops ≤ c.loop-next.next = omega (arith, c.loop-next-test.false) in
    let end = stands-ended code r (g.C.Cells.may_read c.args.cells.now) (g.C.Cells.may_name c.args.cells.now) c.loop-next.next c.loop-next.stack.cells c.loop-next.invariant.stands past in
    let one : length c.loop-next.stack.cells ≡ 1 = ap length end.1 in omega arith

pub returns-clause-value : goal.returns-clause-value
returns-clause-value g c =
    let code = c.args.code.now in
    let r : CodeInputs = code_inputs (g.C.Cells.cell_at c.args.cells.now) (g.C.Cells.name_at c.args.cells.now) c.args.at.now c.args.fixed.now c.args.locals.now in
    let count : length c.as_slice-ops.result.now ≡ length code.ops = ap length c.as_slice-ops.ensures in
    let past : length code.ops ≤ c.loop-next.next = omega (arith, c.loop-next-test.false) in
    let end = stands-ended code r (g.C.Cells.may_read c.args.cells.now) (g.C.Cells.may_name c.args.cells.now) c.loop-next.next c.loop-next.stack.cells c.loop-next.invariant.stands past in
    let both : (end.0 ∷ []) ≡ c.pop.result ∷ c.pop.new.self.cells = sym end.1 ∙ c.pop.ensures.cells in
    let same : end.0 ≡ c.pop.result = cc in
    end.2 ∙ ap (λ (cell : Cell). Some (Ok cell)) same

pub returns-clause-room : goal.returns-clause-room
returns-clause-room g c = c.pop.ensures.room ∙ c.loop-next.invariant.same ∙ c.clear.ensures.room
