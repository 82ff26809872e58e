use Rattle.std.proofs.Common.{◌∙◌, arith}
use Rattle.std.specs.List.{flat_map}
use Rattle.aw_var.specs.CellMap.{KeyedCell}
use Rattle.script_meaning.specs.Dump.{cell_line}
use Rattle.script_disk.proofs.Written.{first_put, first_front, on_err}
use Rattle.script_disk.proofs.objects.write_cells.Goals as goal

pub loop-key-preserved : goal.loop-key-preserved
loop-key-preserved g c =
    let pair : KeyedCell = (c.in-Some.key, c.in-Some.cell) in
    let is = c.as_slice.ensures.value ∙ c.cell_line-line.ensures in
    record {
      has = first_put cell_line c.loop-key.key-iterator pair c.next.new.self c.as_slice.result.now (flat_map cell_line c.args.cells.now.cells) c.loop-key.invariant.has c.in-Some.ensures.steps is c.in_ok-put_all.ensures.ok;
      later = omega (arith, c.loop-key.invariant.later, c.put_all.ensures.later);
    }

pub returns-in_err-put_all-clause-err : goal.returns-in_err-put_all-clause-err
returns-in_err-put_all-clause-err g c =
    let pair : KeyedCell = (c.in-Some.key, c.in-Some.cell) in
    let is = c.as_slice.ensures.value ∙ c.cell_line-line.ensures in
    on_err c.from_residual.result _
    (first_front cell_line c.loop-key.key-iterator pair c.next.new.self c.as_slice.result.now (flat_map cell_line c.args.cells.now.cells) c.loop-key.invariant.has c.in-Some.ensures.steps is c.in_err-put_all.ensures.err)
