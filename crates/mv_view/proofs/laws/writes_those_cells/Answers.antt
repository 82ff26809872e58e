use Rattle.mv_view.proofs.Written.{writes-cells}
use Rattle.mv_view.proofs.laws.writes_those_cells.Goals as goal

pub returns : goal.returns
returns c = writes-cells
