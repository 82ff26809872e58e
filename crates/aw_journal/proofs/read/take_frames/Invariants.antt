use Rattle.std.proofs.Common.{◌-◌}
use Rattle.aw_journal.specs.inside.FramesRead.{Progress}
use Rattle.aw_journal.specs.Undisturbed.{Undisturbed}
use Rattle.aw_journal.proofs.read.take_frames.Given as goal

abbrev pub invariant-loop-next : goal.invariant-loop-next
invariant-loop-next g l = record {
  progress : Progress (g.D.Disk.content l.initial.disk) l.found l.next;
  reads : Undisturbed g.D.Disk.content g.D.Disk.faults g.D.Disk.clock g.D.Disk.crash l.initial.disk l.disk;
}

abbrev pub decreases-loop-next : goal.decreases-loop-next
decreases-loop-next g l = l.end - l.found.gate
