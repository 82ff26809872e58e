use Rattle.std.proofs.Common.{◌≡◌, ℕ, ◌+◌, ◌-◌, min, length, take, drop, List, sym, subst, ap, ◌∙◌, arith}
use Rattle.aw_journal.specs.inside.FramesRead.{Begins, IsFrame}
use Rattle.aw_journal.proofs.FramesRead.{frame_read, lent_back, IfSome_both}
use Rattle.aw_journal.proofs.read.read_frame.Goals as goal

pub returns-clause-ok : goal.returns-clause-ok
returns-clause-ok g c =
    let into = c.read_at.new.into in
    let full : length into ≡ c.in-Ok.bytes.len = omega arith in
    let whole = lent_back c.in-Ok.bytes.len into c.in-Ok.bytes.items full (omega arith) in
    let payload : c.from_vec.result ≡ take c.args.size into = c.from_vec.ensures ∙ c.truncate.ensures.items ∙ ap (λ (l : List ℕ). take c.args.size l) whole in
    let begins = c.gate_of-next.ensures in
    IfSome_both (g.D.Disk.content c.args.disk.now) c.in-Ok-read_at.ensures.read c.requires.end (λ content reads end.
    let room : length into ≡ min (length content - (c.args.gate + 5)) (c.args.size + 5) = omega (arith, end, full, c.in-Ok.ensures.len, c.min-count.ensures, c.saturating_sub-left.ensures) in
    let frame = frame_read c.gate_of-next.result c.in-Ok-read_at.got (c.args.gate + 5) c.args.size content into reads room c.if-got-size.false
    (subst (λ (l : List ℕ). Begins c.gate_of-next.result (take (c.in-Ok-read_at.got - c.args.size) (drop c.args.size l))) (c.deref.ensures.value ∙ whole) begins) in
    subst (λ (l : List ℕ). IsFrame (c.args.gate + 5) c.args.size l c.gate_of-next.result content) (sym payload) frame)
