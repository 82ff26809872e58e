use Rattle.std.proofs.Common.{arith, ◌≡◌, ◌≤◌, length, sym, ap, ◌∙◌}
use mathlib.Core.Option.{some-injective}
use Rattle.mv_desk.proofs.Ends.{closes, whole_same}
use Rattle.mv_desk.proofs.tickets.TicketTable.end.Goals as goal

pub returns : goal.returns
returns g c =
    let f = c.close_with-closed.ensures.values.2 in
    let table = c.into_table.ensures in
    let key = c.into_table.result.shared.key in
    let most : key.most ≡ c.args.self.table.shared.key.most = ap (λ t. t.shared.key.most) table in
    let all : key.most ≤ length c.args.whole.me.0.callers = (let a = c.requires.all in omega arith) in
    let t = closes g.M.Sequential.step key.opening.value key.most f.0 c.args.whole.id c.args.whole.me.0 f.1.0 f.1.1 c.requires.idle all in
    let same : t.0 ≡ c.take-machine.result = some-injective t.0 c.take-machine.result (sym (f.4 0 t.0 t.1) ∙ c.take-machine.ensures.value) in
    whole_same g.M.Sequential.step c.args.self.table.shared.key.opening.value 0 key.opening.value key.most c.args.self.table.shared.key.most c.args.whole.me.0.callers c.args.whole.me.0.callers t.0 c.take-machine.result
    (ap (λ t. t.shared.key.opening.value) table) most (λ _. c.args.whole.me.0.callers) same t.2
