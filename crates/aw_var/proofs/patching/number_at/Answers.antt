use Rattle.std.proofs.Common.{arith, ◌+◌, ◌*◌}
use Rattle.aw_var.proofs.Digits.{number_fits}
use Rattle.aw_var.proofs.patching.number_at.Goals as goal

pub overflow_mul-result : goal.overflow_mul-result
overflow_mul-result c = omega (arith, number_fits c.args.slots (64 * c.args.page + c.args.place) c.requires.few c.requires.fits)

pub overflow_add-result : goal.overflow_add-result
overflow_add-result c = omega (arith, number_fits c.args.slots (64 * c.args.page + c.args.place) c.requires.few c.requires.fits)
