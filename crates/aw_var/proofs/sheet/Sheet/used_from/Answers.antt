use Rattle.std.proofs.Common.{◌∙◌, arith}
use Rattle.aw_var.proofs.Blank.{some_of, na_from}
use Rattle.aw_var.proofs.Puts.{present}
use Rattle.aw_var.proofs.Iterating.{used_on-na, used_on-cell, used_on-end}
use Rattle.aw_var.proofs.sheet.Sheet.used_from.Goals as goal

pub loop-place-preserved : goal.loop-place-preserved
loop-place-preserved c = λ start. c.loop-place.invariant start ∙ used_on-na start c.loop-place.place c.args.self.now.1 c.get-cell.result (omega (arith, c.get-cell.ensures.size)) c.get-cell.ensures.cell (na_from c.get-cell.result c.if-ne.ensures)

pub returns-then-ne : goal.returns-then-ne
returns-then-ne c = (omega arith, λ start. c.loop-place.invariant start ∙ used_on-cell start c.loop-place.place c.args.self.now.1 c.get-cell.result (omega (arith, c.get-cell.ensures.size)) c.get-cell.ensures.cell (present c.get-cell.result (some_of c.get-cell.result c.if-ne.ensures)))

pub returns : goal.returns
returns c = λ start. c.loop-place.invariant start ∙ used_on-end start c.loop-place.place c.args.self.now.1 (omega arith)
