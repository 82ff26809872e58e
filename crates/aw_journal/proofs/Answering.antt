-- That a load's answer is the one of its image.
use Rattle.std.proofs.Common.{◌≡◌, ℕ, List, Option, Some, None, IfSome, Ok, Err}
use Rattle.aw_journal.specs.Format.{Holds, CutShort}
use Rattle.aw_journal.specs.Loads.{Explains, IsAnswered, HoldsSome}
use Rattle.aw_journal.specs.declared.fault.LoadFault.{LoadFault}
use Rattle.aw_journal.specs.declared.fault.LoadFault.TheVariants.{Unformatted, Damaged, DiskFault, NoMemory}
use Rattle.aw_journal.proofs.CallerLemmas.{IsOne, IsWhy, loaded, refused}
use Rattle.aw_journal.proofs.callers.Unique.{reads_one_way}

is_one : (image : List ℕ) → IsOne CutShort HoldsSome image
is_one image =
    let one = reads_one_way image in
    record {
      unformatted_or_whole = λ unformatted whole. one.unformatted_or_holds whole.0 unformatted whole.1;
      unformatted_or_damaged = one.unformatted_or_cut;
      whole_or_damaged = λ offset whole cut. one.holds_or_cut whole.0 offset whole.1 cut;
      offset = one.offset;
    }

pub found : {A D : Type 0} (value : A) (image : List ℕ) (payloads : List (List ℕ)) → Holds image payloads → IsAnswered CutShort HoldsSome {A = A} {D = D} (Ok value) image
found value image payloads holds = loaded CutShort HoldsSome value image (is_one image) (payloads, holds)

why : (fault : LoadFault) (image : List ℕ) (before now : ℕ) → Explains fault (Some image) before now → IsWhy CutShort HoldsSome fault image
why Unformatted image before now explains = explains
why (Damaged offset) image before now explains = explains
why DiskFault image before now explains = tt
why NoMemory image before now explains = tt

pub explained : (A : Type 0) {D : Type 0} (fault : LoadFault) (disk : D) (content : Option (List ℕ)) (before now : ℕ) → Explains fault content before now → IfSome content (IsAnswered CutShort HoldsSome {A = A} {D = D} (Err (fault, disk)))
explained A fault disk None before now explains = tt
explained A fault disk (Some image) before now explains = refused CutShort HoldsSome fault disk image (is_one image) (why fault image before now explains)
