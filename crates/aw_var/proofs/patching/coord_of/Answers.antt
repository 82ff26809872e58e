use Rattle.aw_var.proofs.Digits.{digits_of}
use Rattle.aw_var.proofs.patching.coord_of.Goals as goal

pub returns : goal.returns
returns c = digits_of c.args.slots c.args.number c.in-Some.coord c.write_digits.new.slots c.requires.few c.in-Some.ensures.value c.keep_range.ensures.slots c.write_digits.auto.slots c.requires.number c.write_digits.ensures
