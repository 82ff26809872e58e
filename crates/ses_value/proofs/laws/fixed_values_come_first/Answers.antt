use Rattle.ses_value.proofs.Written.{fixes-first}
use Rattle.ses_value.proofs.laws.fixed_values_come_first.Goals as goal

pub returns : goal.returns
returns c = fixes-first
