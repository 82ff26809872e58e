use Rattle.std.proofs.Common.{◌≡◌, get_or, drop, arith, rules}
use Rattle.aw_journal.proofs.FramesRead.{gate_read}
use Rattle.aw_journal.proofs.gate.gate_of.Goals as goal

pub returns-in-1 : goal.returns-in-1
returns-in-1 c =
    let first : get_or c.args.bytes.now 0 0 ≡ 1 = search rules in
    (drop 5 c.args.bytes.now, c.from_be_bytes.type_inv, gate_read c.args.bytes.now c.from_be_bytes.result c.in-1.len_at_least first (λ i. omega (arith, c.type_inv.bytes i)) c.from_be_bytes.ensures)
