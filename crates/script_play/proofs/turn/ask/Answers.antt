use Rattle.script_play.proofs.LineSteps.{asked_so}
use Rattle.script_play.proofs.ReplyForms.{allowed_so}
use Rattle.script_play.proofs.Told.{act_payload, act_told}
use Rattle.script_play.proofs.turn.ask.Goals as goal

pub tell_of-requires : goal.tell_of-requires
tell_of-requires g c = act_payload c.args.entry.now c.args.store.now c.act-reply.new.self c.act-reply.result c.act-reply.ensures.acts

pub returns-in-NoMemory-clause-told : goal.returns-in-NoMemory-clause-told
returns-in-NoMemory-clause-told g c = act_told c.args.entry.now c.args.store.now c.act-reply.new.self _ _ c.act-reply.result c.act-reply.ensures.acts c.tell_of.ensures

pub returns-in_default-clause-ok : goal.returns-in_default-clause-ok
returns-in_default-clause-ok g c =
    asked_so g.D.Disk.faults g.D.Disk.clock g.D.Disk.crash c.args.entry.now _ _ _ c.in_default.not-NoMemory c.act-reply.ensures.acts c.act-reply.ensures.moments c.act-reply.ensures.images c.act-reply.ensures.later c.act-reply.ensures.cause

pub returns-in_default-clause-allowed : goal.returns-in_default-clause-allowed
returns-in_default-clause-allowed g c = allowed_so c.args.entry.now _ c.args.store.now _ c.recall_invariant.ensures.definitions c.recall_invariant.ensures.forms c.act-reply.ensures.acts

pub returns-in_default-clause-told : goal.returns-in_default-clause-told
returns-in_default-clause-told g c = act_told c.args.entry.now c.args.store.now c.act-reply.new.self _ _ c.act-reply.result c.act-reply.ensures.acts c.tell_of.ensures
