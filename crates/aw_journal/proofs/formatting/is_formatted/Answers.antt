use Rattle.std.proofs.Common.{◌≡◌, length, arith}
use Rattle.std.proofs.lemmas.Option.{IfSome_then}
use Rattle.aw_journal.proofs.FramesRead.{formatted_read}
use Rattle.aw_journal.proofs.formatting.is_formatted.Goals as goal

pub returns-then-count-eq9-clause-ok : goal.returns-then-count-eq9-clause-ok
returns-then-count-eq9-clause-ok g c =
    let size : length c.read_at.new.into ≡ 9 = omega arith in
    IfSome_then (g.D.Disk.content c.args.disk.now) c.in-Ok.ensures.read (λ content reads.
    formatted_read c.in-Ok.count content c.read_at.new.into c.eq.result reads size c.if-count-eq9.true c.eq.ensures)
