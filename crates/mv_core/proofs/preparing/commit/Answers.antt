use Rattle.std.proofs.Common.{◌∙◌, sym, subst}
use Rattle.mv_core.specs.declared.entry.Entry.TheVariants.{Commit}
use Rattle.mv_core.specs.Prepared.{IsReadyFor}
use Rattle.mv_core.proofs.Prepares.{commit-refused, commit-makable, commit-ready, ready-is}
use Rattle.mv_core.proofs.preparing.commit.Goals as goal

pub made-requires : goal.made-requires
made-requires c =
    commit-makable c.args.definitions.now c.args.objects.now c.args.who c.args.changes.now c.args.leave.now c.requires c.in-None.ensures

pub returns-in-Some : goal.returns-in-Some
returns-in-Some c =
    subst (IsReadyFor c.args.definitions.now c.args.objects.now (Commit c.args.who c.args.changes.now c.args.leave.now)) (sym c.new.ensures) (commit-refused c.args.definitions.now c.args.objects.now c.args.who c.args.changes.now c.args.leave.now c.in-Some.blocked c.in-Some.ensures)

pub returns-in_ok-leave-in-None : goal.returns-in_ok-leave-in-None
returns-in_ok-leave-in-None c =
    ready-is c.args.definitions.now c.args.objects.now (Commit c.args.who c.args.changes.now c.args.leave.now) c.new-in-None.result c.args.who _ _ _ _ c.new-in-None.ensures (c.from_vec-made.ensures ∙ c.in_ok-made-in-None.ensures) c.in_ok-leave-in-None.ensures (commit-ready c.args.definitions.now c.args.objects.now c.args.who c.args.changes.now c.args.leave.now c.requires c.in-None.ensures)
