use Rattle.aw_disk.proofs.Leaving.{leave_what_is_covered}
use Rattle.aw_disk.proofs.laws.crashes_leave_what_is_covered.Goals as goal

pub returns : goal.returns
returns c = leave_what_is_covered
