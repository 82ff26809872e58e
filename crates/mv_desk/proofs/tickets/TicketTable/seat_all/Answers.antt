use Rattle.std.proofs.Common.{rules, arith, ◌≡◌, ◌+◌, ◌-◌, ◌++◌, drop, take, length, vec_len, sym, ap, ◌∙◌, subst}
use Rattle.mv_desk.specs.declared.facts.DeskFacts.{DeskFacts}
use Rattle.mv_desk.specs.inside.Seats.{seat_facts}
use Rattle.mv_desk.proofs.Seating.{Seated, goes_on, turned_round, all_made}
use Rattle.mv_desk.proofs.tickets.TicketTable.seat_all.Goals as goal

pub loop-others-preserved : goal.loop-others-preserved
loop-others-preserved g c =
    let desk : DeskFacts g.row.M.Denot = record { opening = c.args.self.now.table.shared.key.opening.value; callers = c.args.callers; table = c.args.self.now.table.shared.table_id } in
    let i = c.loop-others.invariant in let old = c.split-seat.ensures.old in let new = c.split-seat.ensures.new in (
      subst (λ l. Seated desk (c.loop-others.others + 1) c.split-seat.new.seat l) (sym c.push_reserved.ensures.items) (goes_on desk c.loop-others.others c.loop-others.first c.split-seat.new.seat c.split-seat.result c.loop-others.passes.items i.0 old.0 old.1 new.0 new.1),
      search rules,
      search rules,
    )

pub returns : goal.returns
returns g c =
    let desk : DeskFacts g.row.M.Denot = record { opening = c.args.self.now.table.shared.key.opening.value; callers = c.args.callers; table = c.args.self.now.table.shared.table_id } in
    let i = c.loop-others.invariant in
    let passes = c.loop-others.passes.items in
    let n = vec_len c.push_reserved-2.new.self in
    let len : n ≡ length passes + 1 = (let a = c.push_reserved-2.ensures.len in let b = c.loop-others.passes.ok.0 in omega arith) in
    let all : c.args.callers ≡ c.loop-others.others + 1 = (let a = i.1 in let b = c.loop-others-test.false in omega arith) in
    c.rotate_right.ensures.items
    ∙ (ap (λ l. drop (n - 1) l ++ take (n - 1) l) c.push_reserved-2.ensures.items ∙ (turned_round passes (seat_facts c.loop-others.first) n len ∙ all_made desk c.loop-others.others c.loop-others.first passes i.0 all))
