use Rattle.std.proofs.Common.{rules, ◌≡◌, Some}
use Rattle.agg_run.specs.inside.Folds.{with}
use Rattle.agg_run.specs.inside.Levels.{fold_at}
use Rattle.agg_run.proofs.Climbing.{added}
use Rattle.agg_run.proofs.levels.add.Goals as goal
use Rattle.agg_run.proofs.levels.add.Goals.{in-Some, in-None}

pub returns-in-Ok-clause-added : goal.returns-in-Ok-clause-added
returns-in-Ok-clause-added c =
    let is : Some c.match-get.sum ≡ with c.args.operator (fold_at c.args.folds.now.entries c.args.at) (Some c.args.fold) = elim c.match-get.branch [
      | in-Some w ↦ search rules
      | in-None w ↦ search rules
    ] in
    added c.args.operator c.args.folds.now.entries c.insert.new.self.entries c.args.at c.args.fold c.match-get.sum is (λ key. c.in-Ok.ensures.updates.0 key)
