use Rattle.std.proofs.Common.{◌≡◌, ◌++◌, ◌*◌, ◌-◌}
use Rattle.std.specs.Option.{option_copied}
use Rattle.aw_var.specs.inside.Differences.{changes_on}
use Rattle.aw_var.specs.inside.Unpacking.{with_coords}
use Rattle.aw_var.proofs.patching.push_each.Given as goal

abbrev pub invariant-loop-place : goal.invariant-loop-place
invariant-loop-place l = l.patch.items ++ with_coords l.slots (changes_on (option_copied l.before) (option_copied l.now) (64 * l.page) l.place (64 - l.place)) ≡ l.fn.patch.items ++ with_coords l.slots (changes_on (option_copied l.before) (option_copied l.now) (64 * l.page) 0 64)
