use Rattle.std.proofs.Common.{◌≡◌, drop}
use Rattle.aw_disk.specs.inside.PickedImages.{left_by}
use Rattle.aw_disk.proofs.replay.leave_all.Given as goal

abbrev pub invariant-loop-step : goal.invariant-loop-step
invariant-loop-step l = left_by l.pick l.image.items (drop l.step-index l.steps) ≡ left_by l.pick l.initial.image.items l.steps
