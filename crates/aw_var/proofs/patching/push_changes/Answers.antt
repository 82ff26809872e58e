use Rattle.std.proofs.Common.{◌*◌}
use Rattle.std.specs.Option.{option_copied}
use Rattle.aw_var.proofs.GoingOver.{unchanged}
use Rattle.aw_var.proofs.patching.push_changes.Goals as goal

pub returns-then-is_unchanged : goal.returns-then-is_unchanged
returns-then-is_unchanged c = unchanged c.args.slots (option_copied c.args.before) (option_copied c.args.now) (64 * c.args.page) c.args.patch.now.items (c.is_unchanged.ensures c.if-is_unchanged.true)
