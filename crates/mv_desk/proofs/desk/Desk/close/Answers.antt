use Rattle.std.proofs.Common.{rules, ◌<◌, length, map, refl, ap, ◌∙◌}
use Rattle.std.proofs.lemmas.Bool.{false≢true}
use Rattle.mv_desk.specs.inside.Seats.{caller_of}
use Rattle.mv_desk.proofs.Closing.{whole_of, closed, missing, not_missing}
use Rattle.mv_desk.proofs.desk.Desk.close.Goals as goal

pub returns-then-len-self-clause-missing : goal.returns-then-len-self-clause-missing
returns-then-len-self-clause-missing g c = let few : length c.args.passes < c.args.self.callers = search rules in ((λ _. missing c.args.self c.args.passes few), (λ _. refl))

pub returns-clause-missing : goal.returns-clause-missing
returns-clause-missing g c =
    let all = c.join_all-whole.ensures.all ∙ ap (map caller_of) c.into_vec.ensures in
    let w = whole_of g.M.Sequential.step c.args.self c.args.passes c.into_tickets.result.table.shared.key.opening.value c.into_tickets.result.table.shared.key.most c.join_all-whole.result.me.0.callers c.end.result c.into_tickets.ensures.value.0 c.into_tickets.ensures.most.0 all c.end.ensures in
    ((λ e. absurd (false≢true e)), (λ t. absurd (not_missing g.M.Sequential.step c.args.self c.args.passes c.end.result w t)))

pub returns-clause-ok : goal.returns-clause-ok
returns-clause-ok g c =
    let all = c.join_all-whole.ensures.all ∙ ap (map caller_of) c.into_vec.ensures in
    let w = whole_of g.M.Sequential.step c.args.self c.args.passes c.into_tickets.result.table.shared.key.opening.value c.into_tickets.result.table.shared.key.most c.join_all-whole.result.me.0.callers c.end.result c.into_tickets.ensures.value.0 c.into_tickets.ensures.most.0 all c.end.ensures in
    closed g.M.Sequential.step c.args.self c.args.passes c.end.result w
