-- A writer of std as a sink: what one `put` did to the bytes that the writer holds, where std knows
-- them.
use Rattle.std.specs.Prelude.{ℕ, Bool, List, take, Option, is_some}
use Rattle.std.specs.Io.KnownBytes.{Appends}
use Rattle.aw_io.specs.declared.sink.Gave.{Gave}
use Rattle.aw_io.specs.declared.sink.Gave.TheVariants.{Put, Failed}
use Rattle.aw_io.specs.declared.std_sink.StdSink.{StdSink}
use Rattle.aw_lists.specs.Faults.{next_count}

abbrev pub writer_of : {W : Type 0} → StdSink W → W
writer_of sink = sink.writer

abbrev pub faults_of : {W : Type 0} → StdSink W → ℕ
faults_of sink = sink.faults

-- whether it tells what std said at the last failure
abbrev pub tells_why : {W : Type 0} → StdSink W → Bool
tells_why sink = is_some sink.error

-- the bytes that went are those that the writer gained; of a failure nothing is said
abbrev pub Writes : Gave → Option (List ℕ) → Option (List ℕ) → List ℕ → Type 0
Writes (Put n) before now bytes = Appends before now (take n bytes)
Writes Failed before now bytes = Unit {0}

-- the faults after this answer: one more at a failure, and else as many as before
abbrev pub faults_after : ℕ → Gave → ℕ
faults_after faults (Put n) = faults
faults_after faults Failed = next_count faults
