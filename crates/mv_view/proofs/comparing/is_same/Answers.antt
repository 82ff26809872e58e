use Rattle.mv_view.proofs.Sameness.{same-dim, same-rel, same-var}
use Rattle.mv_view.proofs.comparing.is_same.Goals as goal

pub returns-in-Dim-Dim : goal.returns-in-Dim-Dim
returns-in-Dim-Dim c = same-dim c.args.one.now c.args.other.now c.in-Dim-Dim.one c.in-Dim-Dim.other c.eq.result c.eq.ensures c.in-Dim-Dim.is-0 c.in-Dim-Dim.is-1

pub returns-in-Rel-Rel : goal.returns-in-Rel-Rel
returns-in-Rel-Rel c = same-rel c.args.one.now c.args.other.now c.in-Rel-Rel.one c.in-Rel-Rel.other c.eq-in-Rel-Rel.result c.eq-in-Rel-Rel.ensures c.in-Rel-Rel.is-0 c.in-Rel-Rel.is-1

pub returns-in-Var-Var : goal.returns-in-Var-Var
returns-in-Var-Var c = same-var c.args.one.now c.args.other.now c.in-Var-Var.one c.in-Var-Var.other c.eq-in-Var-Var.result c.eq-in-Var-Var.ensures c.in-Var-Var.is-0 c.in-Var-Var.is-1
