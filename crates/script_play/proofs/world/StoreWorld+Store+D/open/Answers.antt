use Rattle.std.proofs.Common.{◌≤◌, ◌∙◌, ap, subst, sym, inr, Err, List, IsTrue}
use Rattle.aw_schema.specs.declared.definition.Def.{Def}
use Rattle.aw_schema.specs.RecordLength.{record_len}
use Rattle.aw_store.specs.StoredRecords.{are_replayed}
use Rattle.script_play.proofs.Opening.{opens_by, fails_by}
use Rattle.script_play.proofs.Told.{payload_of, told_written, told_nothing, told_same}
use Rattle.script_meaning.proofs.callers.Defining.{record_len-below}
use Rattle.script_play.proofs.world.StoreWorld+Store+D.open.Goals as goal

pub define-requires-clause-size : goal.define-requires-clause-size
define-requires-clause-size g c =
    subst (λ (definitions : List Def). record_len definitions ≤ 67108864) (sym c.replace-drafted.ensures.value) (record_len-below c.args.self.now.drafted (c.requires.sound.writable c.requires.unopened))

pub define-requires-clause-kinds : goal.define-requires-clause-kinds
define-requires-clause-kinds g c =
    subst (λ (definitions : List Def). IsTrue (are_replayed definitions)) (sym c.replace-drafted.ensures.value) (c.requires.sound.writable c.requires.unopened).replayed

pub tell_last-requires : goal.tell_last-requires
tell_last-requires g c = payload_of c.in-Ok.ensures.ok.1

pub returns-in-Ok-clause-opens : goal.returns-in-Ok-clause-opens
returns-in-Ok-clause-opens g c =
    opens_by g.D.Disk.faults g.D.Disk.clock g.D.Disk.crash c.args.self.now c.define.new.self c.replace-drafted.result c.replace-drafted.new.dest c.replace-drafted.ensures.value (c.replace-drafted.ensures.after ∙ c.new.ensures) c.define.ensures.moments c.define.ensures.images c.define.ensures.later c.recall_invariant.ensures.replayable c.in-Ok.ensures.ok

pub returns-in-Ok-clause-told : goal.returns-in-Ok-clause-told
returns-in-Ok-clause-told g c = told_written _ _ c.args.self.now.store c.define.new.self c.in-Ok.ensures.ok.1 c.tell_last.ensures

pub returns-in-Err-DiskFault-clause-opens : goal.returns-in-Err-DiskFault-clause-opens
returns-in-Err-DiskFault-clause-opens g c =
    let is = c.in-Err-DiskFault.is ∙ ap Err c.in-Err-DiskFault.field-0-is in
    fails_by g.D.Disk.faults g.D.Disk.clock g.D.Disk.crash c.args.self.now c.define.new.self c.replace-drafted.result c.replace-drafted.new.dest c.replace-drafted.ensures.value (c.replace-drafted.ensures.after ∙ c.new.ensures) c.define.ensures.moments c.define.ensures.images c.define.ensures.later (c.define.ensures.fault is) (c.define.ensures.cause is)

pub returns-in-Err-DiskFault-clause-told : goal.returns-in-Err-DiskFault-clause-told
returns-in-Err-DiskFault-clause-told g c =
    let is = c.in-Err-DiskFault.is ∙ ap Err c.in-Err-DiskFault.field-0-is in
    told_nothing _ c.args.self.now.store c.define.new.self (c.define.ensures.fault is).1.records

pub returns-in-Err-NoMemory-clause-told : goal.returns-in-Err-NoMemory-clause-told
returns-in-Err-NoMemory-clause-told g c =
    let is = c.in-Err-NoMemory.is ∙ ap Err c.in-Err-NoMemory.field-0-is in
    told_same _ c.args.self.now.store c.define.new.self (c.define.ensures.same (inr is))
