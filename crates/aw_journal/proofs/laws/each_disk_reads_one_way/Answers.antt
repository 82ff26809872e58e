use Rattle.std.proofs.Common.{arith}
use Rattle.aw_journal.proofs.callers.Each.{reads_some_way}
use Rattle.aw_journal.proofs.callers.Unique.{reads_one_way}
use Rattle.aw_journal.proofs.laws.each_disk_reads_one_way.Goals as goal

pub returns-clause-reads : goal.returns-clause-reads
returns-clause-reads c = reads_some_way c.args.image.now (λ i. omega (arith, c.type_inv.image i))

pub returns-clause-one_way : goal.returns-clause-one_way
returns-clause-one_way c = reads_one_way c.args.image.now
