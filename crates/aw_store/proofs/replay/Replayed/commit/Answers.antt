use Rattle.aw_body.specs.KeptBodies.{first_of}
use Rattle.std.proofs.Common.{unwrap_or, []}
use Rattle.aw_store.specs.StoredRecords.{definitions_of, workspace_of}
use Rattle.aw_store.proofs.Taking.{follows-commit, left-commit}
use Rattle.aw_store.proofs.replay.Replayed.commit.Goals as goal

pub returns-clause-follows : goal.returns-clause-follows
returns-clause-follows c = λ records leave few.
    let old = c.args.self.now in
    follows-commit records old.catalogue old.shared leave c.follow.result c.args.changes.now few c.requires c.follow.ensures.may

pub returns-clause-leave : goal.returns-clause-leave
returns-clause-leave c = λ records leave few done.
    let old = c.args.self.now in
    let step = c.follow.ensures.step (workspace_of records []) (λ object. 1) (first_of (unwrap_or (definitions_of records) [])) leave.table_is in
    left-commit records old.catalogue old.shared leave c.follow.result c.args.changes.now c.follow.new.self few c.requires c.follow.ensures.may step done
