use Rattle.script_play.specs.inside.Playing.{opened_play}
use Rattle.script_play.proofs.Endings.{ends_unbegun, opened_as, sound_as, ends_as_opened, told_opened}
use Rattle.script_play.proofs.Told.{told_none}
use Rattle.script_play.proofs.whole_run.play_over.Goals as goal

pub returns-in-Err-clause-ends : goal.returns-in-Err-clause-ends
returns-in-Err-clause-ends g c = ends_unbegun g.D.Disk.faults g.D.Disk.clock g.D.Disk.crash (opened_play c.args.store) _ _

pub play_with-ending-requires-clause-sound : goal.play_with-ending-requires-clause-sound
play_with-ending-requires-clause-sound g c =
    sound_as g.D.Disk.faults g.D.Disk.clock g.D.Disk.crash _ c.args.store (opened_as g.D.Disk.faults g.D.Disk.clock g.D.Disk.crash _ c.args.store _ _ _ _ c.new-player.ensures.fresh c.new.ensures c.new-2.ensures c.new-3.ensures c.new-4.ensures)

pub returns-clause-ends : goal.returns-clause-ends
returns-clause-ends g c =
    ends_as_opened g.D.Disk.faults g.D.Disk.clock g.D.Disk.crash _ c.args.store _ _ c.play_with-ending.result _
    (opened_as g.D.Disk.faults g.D.Disk.clock g.D.Disk.crash _ c.args.store _ _ _ _ c.new-player.ensures.fresh c.new.ensures c.new-2.ensures c.new-3.ensures c.new-4.ensures) c.into_store.ensures c.play_with-ending.ensures.ends

pub returns-in-Err-clause-told : goal.returns-in-Err-clause-told
returns-in-Err-clause-told g c = told_none

pub returns-clause-told : goal.returns-clause-told
returns-clause-told g c =
    told_opened g.D.Disk.faults g.D.Disk.clock g.D.Disk.crash _ c.args.store _ _
    (opened_as g.D.Disk.faults g.D.Disk.clock g.D.Disk.crash _ c.args.store _ _ _ _ c.new-player.ensures.fresh c.new.ensures c.new-2.ensures c.new-3.ensures c.new-4.ensures) c.into_store.ensures c.play_with-ending.ensures.told
