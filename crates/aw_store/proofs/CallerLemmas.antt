-- What those above a store cite.
use Rattle.std.proofs.Common.{ℕ, List}
use Rattle.aw_store.specs.Laws.{ReadsRecordsOneWay}
use Rattle.aw_store.proofs.UniqueRecords as reading

-- each image reads in one way as records
pub reads_records_one_way : (image : List ℕ) → ReadsRecordsOneWay image
reads_records_one_way image = reading.reads_records_one_way image
