-- A reader of std as a source: what one `take` did with the bytes that the reader has left, where
-- std knows them.
use Rattle.std.specs.Prelude.{ℕ, Bool, List, take, Option, is_some}
use Rattle.std.specs.Io.KnownBytes.{Consumes, IsAtEnd, Keeps}
use Rattle.aw_io.specs.declared.source.Took.{Took}
use Rattle.aw_io.specs.declared.source.Took.TheVariants.{Got, End, Failed}
use Rattle.aw_io.specs.declared.std_source.StdSource.{StdSource}
use Rattle.aw_lists.specs.Faults.{next_count}

abbrev pub reader_of : {R : Type 0} → StdSource R → R
reader_of source = source.reader

abbrev pub faults_of : {R : Type 0} → StdSource R → ℕ
faults_of source = source.faults

-- whether it tells what std said at the last failure
abbrev pub tells_why : {R : Type 0} → StdSource R → Bool
tells_why source = is_some source.error

-- the bytes that came are those that the reader lost, and at the end it has none
abbrev pub Reads : Took → Option (List ℕ) → Option (List ℕ) → List ℕ → Type 0
Reads (Got n) before now buffer = Consumes before now (take n buffer)
Reads End before now buffer = IsAtEnd now
Reads Failed before now buffer = Keeps before now

-- the faults after this answer: one more at a failure, and else as many as before
abbrev pub faults_after : ℕ → Took → ℕ
faults_after faults (Got n) = faults
faults_after faults End = faults
faults_after faults Failed = next_count faults
