use Rattle.std.proofs.Common.{rules}
use Rattle.aw_journal.specs.Format.{size_bytes}
use Rattle.aw_journal.proofs.journal.fill_frame.Goals as goal

pub returns-clause-bytes : goal.returns-clause-bytes
unfolding size_bytes
returns-clause-bytes c = search rules
