-- That a load's answer is the one of its image.
use Rattle.std.proofs.Common.{ℕ, List, Option, Some, None, IfSome, IfOk, IfErr, Result, Ok, Err}
use Rattle.aw_journal.specs.Loads.{IsAnswered}
use Rattle.aw_journal.specs.declared.fault.LoadFault.{LoadFault}
use Rattle.aw_journal.specs.declared.fault.LoadFault.TheVariants.{Unformatted, Damaged, DiskFault, NoMemory}
use Rattle.aw_journal.proofs.CallerLemmas.{IsOne, IsWhy, loaded, refused}
use Rattle.aw_store.specs.StoredRecords.{HoldsRecords, HoldsSomeRecords, IsDamaged, IsRefused}
use Rattle.aw_store.specs.Stores.{StoreState}
use Rattle.aw_store.proofs.UniqueRecords.{reads_records_one_way}

is_one : (image : List ℕ) → IsOne IsDamaged HoldsSomeRecords image
is_one image =
    let one = reads_records_one_way image in
    record {
      unformatted_or_whole = λ unformatted whole. one.unformatted_or_holds whole.0 unformatted whole.1;
      unformatted_or_damaged = one.unformatted_or_damaged;
      whole_or_damaged = λ offset whole damaged. one.holds_or_damaged whole.0 offset whole.1 damaged;
      offset = one.offset;
    }

why : (fault : LoadFault) (image : List ℕ) → IsRefused fault image → IsWhy IsDamaged HoldsSomeRecords fault image
why Unformatted image is = is
why (Damaged offset) image is = is
why DiskFault image is = tt
why NoMemory image is = tt

pub answered : (D : Type 0) (content : Option (List ℕ)) (result : Result (StoreState D) (LoadFault × D)) →
    IfOk result (λ store. IfSome content (λ image. HoldsRecords image store.records)) → IfErr result (λ refused. IfSome content (IsRefused refused.0)) →
    IfSome content (IsAnswered IsDamaged HoldsSomeRecords result)
answered D None result holds is = tt
answered D (Some image) (Ok store) holds is = loaded IsDamaged HoldsSomeRecords store image (is_one image) (store.records, holds)
answered D (Some image) (Err (fault, disk)) holds is = refused IsDamaged HoldsSomeRecords fault disk image (is_one image) (why fault image is)
