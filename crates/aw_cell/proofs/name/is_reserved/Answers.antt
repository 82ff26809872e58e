use Rattle.aw_cell.proofs.name.is_reserved.Goals as goal

pub returns : goal.returns
returns c = c.is_among.ensures
