-- That what was written of a store is its dump, which a crash from then on leaves.
use Rattle.std.proofs.Common.{◌≡◌, inl, inr, ⊎_elim, ℕ, List, [], Option, None, Some, IfSome, IsTrue, refl, ap, arith}
use Rattle.aw_codec.specs.declared.record.Decoded.{Decoded}
use Rattle.aw_io.specs.Known.{Grows, GrowsByFront}
use Rattle.aw_store.specs.StoredRecords.{AreRecords, HoldsRecords, LeftRecords, can_replay, stood_by}
use Rattle.mv_core.specs.Workspace.{Table}
use Rattle.script_meaning.specs.Dump.{dumped_table}
use Rattle.script_disk.specs.Dumped.{IsDumpOf, EndsDump}

-- where nothing is in doubt, a crash leaves the records
durable : (records : List Decoded) (doubt : Option Decoded) (images : List ℕ → Type 0) → doubt ≡ None → ((image : List ℕ) → images image → LeftRecords records doubt image) → (image : List ℕ) → images image → HoldsRecords image records
durable records None images certain left image is = left image is
durable records (Some r) images certain left image is = cc

pub is_dump : (content : Option (List ℕ)) (images : List ℕ → Type 0) (records : List Decoded) (doubt : Option Decoded) (table : Table) →
    AreRecords records → IsTrue (can_replay records) → IfSome content (λ image. HoldsRecords image records) → doubt ≡ None → ((image : List ℕ) → images image → LeftRecords records doubt image) →
    table ≡ stood_by records [] → IsDumpOf content images (dumped_table table)
is_dump content images records doubt table spellings replayable holds certain left are = record {
  records = records;
  can_be_opened = record { spellings = spellings; replayable = replayable };
  holds = holds;
  durable = durable records doubt images certain left;
  text_is = ap dumped_table are;
}

module _ (content : Option (List ℕ)) (images : List ℕ → Type 0) (before now : Option (List ℕ)) (text : List ℕ) (dump : IsDumpOf content images text) where
  pub written : Grows before now text → EndsDump 0 content images before now
  written grew = record {
    statuses = inl refl;
    whole = λ zero. record { text = text; dump = dump; wrote = grew };
    cut = λ four. absurd (omega (arith, four));
    unformatted = λ seven. absurd (omega (arith, seven));
    bad = λ eight. absurd (omega (arith, eight));
    silent = λ either. ⊎_elim (λ five. absurd (omega (arith, five))) (λ six. absurd (omega (arith, six))) either;
  }

  pub broken : GrowsByFront before now text → EndsDump 4 content images before now
  broken grew = record {
    statuses = inr (inl refl);
    whole = λ zero. absurd (omega (arith, zero));
    cut = λ four. inl (record { text = text; dump = dump; wrote = grew });
    unformatted = λ seven. absurd (omega (arith, seven));
    bad = λ eight. absurd (omega (arith, eight));
    silent = λ either. ⊎_elim (λ five. absurd (omega (arith, five))) (λ six. absurd (omega (arith, six))) either;
  }
