use Rattle.ses_value.proofs.Written.{loop-written}
use Rattle.ses_value.proofs.laws.assignments_write_their_loop.Goals as goal

pub returns : goal.returns
returns c = loop-written c.each_place_is_assigned.ensures
