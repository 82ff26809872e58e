use Rattle.std.proofs.Common.{arith}
use Rattle.aw_store.proofs.UniqueRecords.{reads_records, reads_records_one_way}
use Rattle.aw_store.proofs.laws.each_disk_has_one_past.Goals as goal

pub returns-clause-reads : goal.returns-clause-reads
returns-clause-reads c = reads_records c.args.image.now (λ i. omega (arith, c.type_inv.image i))

pub returns-clause-one_way : goal.returns-clause-one_way
returns-clause-one_way c = reads_records_one_way c.args.image.now
