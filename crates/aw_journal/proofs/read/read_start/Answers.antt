use Rattle.std.proofs.Common.{◌≡◌, length, sym, ◌∙◌, arith}
use Rattle.std.proofs.lemmas.Option.{IfSome_then}
use Rattle.aw_journal.proofs.FramesRead.{start_short, start_other, start_read, head_is, head_is_not}
use Rattle.aw_journal.proofs.read.read_start.Goals as goal
use Rattle.aw_journal.proofs.read.read_start.Goals.{then-count-lt9-via-then-count-lt9, then-count-lt9-via-else-count-lt9+then-ne}

pub returns-then-count-lt9-clause-err : goal.returns-then-count-lt9-clause-err
returns-then-count-lt9-clause-err g c =
    let size : length c.read_at.new.into ≡ 13 = omega arith in
    IfSome_then (g.D.Disk.content c.args.disk.now) c.in-Ok.ensures.read (λ content reads. elim c.then-count-lt9.branch [
      | then-count-lt9-via-then-count-lt9 w ↦ start_short c.in-Ok.count content c.read_at.new.into reads size w.if-count-lt9.true
      | then-count-lt9-via-else-count-lt9+then-ne w ↦
          start_other c.in-Ok.count content c.read_at.new.into reads w.if-count-lt9.false (head_is_not _ (sym w.if-ne.true ∙ w.ne.ensures))
    ])

pub returns-clause-ok : goal.returns-clause-ok
returns-clause-ok g c =
    let size : length c.read_at.new.into ≡ 13 = omega arith in
    IfSome_then (g.D.Disk.content c.args.disk.now) c.in-Ok.ensures.read (λ content reads.
    start_read c.gate_of.result c.in-Ok.count content c.read_at.new.into reads size c.if-count-lt9.false (head_is _ (sym c.if-ne.false ∙ c.ne.ensures)) c.gate_of.ensures)
