use Rattle.dml_tree.proofs.LineWalk.{blank_len-is, stands_at, ends_at_end, ends_at_comment}
use Rattle.dml_tree.proofs.line.start_behind.Goals as goal
use Rattle.dml_tree.proofs.line.start_behind.Goals.{then-start-line-via-then-start-line, then-start-line-via-else-start-line+then-line-start-eq34}

pub returns-then-start-line : goal.returns-then-start-line
returns-then-start-line c =
    let e = blank_len-is c.args.line.now c.args.at c.blanks.result c.blanks.ensures.front in
    elim c.then-start-line.branch [
      | then-start-line-via-then-start-line w ↦ ends_at_end c.args.line.now c.args.at c.blanks.result e c.requires w.if-start-line.true
      | then-start-line-via-else-start-line+then-line-start-eq34 w ↦
          ends_at_comment c.args.line.now c.args.at c.blanks.result e c.requires w.if-start-line.false w.if-line-start-eq34.true
    ]

pub returns : goal.returns
returns c =
    stands_at c.args.line.now c.args.at c.blanks.result (blank_len-is c.args.line.now c.args.at c.blanks.result c.blanks.ensures.front)
    c.requires c.if-start-line.false c.if-line-start-eq34.false
