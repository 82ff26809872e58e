use Rattle.std.proofs.Common.{◌≡◌, List, subst, if◌then◌else◌}
use Rattle.std.specs.Prelude.{IfOk}
use Rattle.std.proofs.lemmas.Result.{IfOk-weaker}
use Rattle.aw_body.specs.declared.change.Change.{Change}
use Rattle.aw_body.specs.KeptBodies.{bodies_from}
use Rattle.mv_core.specs.Following.{followed_by, table_followed}
use Rattle.mv_core.specs.Workspace.{table_of}
use Rattle.mv_core.proofs.CallerLemmas.{followed-where}
use Rattle.mv_core.proofs.shared.Shared.follow.Goals as goal

pub returns-clause-step : goal.returns-clause-step
returns-clause-step c = λ w numbers firsts stands.
    let table = subst (λ (changes : List Change). IfOk c.followed.result (λ may. c.followed.new.self ≡ (if may then table_followed c.args.self.now changes else c.args.self.now))) c.as_slice.ensures c.followed.ensures.table in
    IfOk-weaker c.followed.result (λ may. c.followed.new.self ≡ (if may then table_followed c.args.self.now c.args.changes.now else c.args.self.now)) (λ may. c.followed.new.self ≡ table_of (bodies_from w.definitions numbers firsts) (if may then followed_by w c.args.changes.now else w)) (λ may is. followed-where w.definitions numbers firsts w c.args.changes.now may c.args.self.now c.followed.new.self stands is) table
