use Rattle.dml_loop.specs.Evaluation.{read_at}
use Rattle.dml_loop.proofs.EachPlace.{first-runs}
use Rattle.dml_loop.proofs.first.shown.Goals as goal

pub cell_at-requires-clause-fits : goal.cell_at-requires-clause-fits
cell_at-requires-clause-fits g c =
    let cells = c.args.reading.now.cells.now in
    first-runs c.args.reading.now.code.now (read_at (g.C.Cells.cell_at cells) (g.C.Cells.name_at cells) c.args.reading.now.fixed.now c.args.reading.now.locals.now) c.args.lists.now c.in_ok-place.place (g.C.Cells.may_read cells) (g.C.Cells.may_name cells) c.in_ok-place.ensures c.requires
