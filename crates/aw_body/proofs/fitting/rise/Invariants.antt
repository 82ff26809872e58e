use Rattle.std.proofs.Common.{◌≡◌, ◌-◌, drop}
use Rattle.aw_body.specs.Fitting.{rise}
use Rattle.aw_body.proofs.fitting.rise.Given as goal

abbrev pub invariant-loop-at : goal.invariant-loop-at
invariant-loop-at l = rise (drop (l.at - 1) l.changes) ≡ rise l.changes
