-- A sink into memory that fails at listed calls, and where it finds no memory.
use Rattle.std.specs.Prelude.{ℕ, List, ◌++◌, take}
use Rattle.aw_io.specs.declared.sink.Gave.{Gave}
use Rattle.aw_io.specs.declared.sink.Gave.TheVariants.{Put, Failed}
use Rattle.aw_lists.specs.Faults.{next_count}

-- the bytes written, the numbers of the calls that fail, the number of the next call, and the faults
pub record MemSinkState : Type 0 where
  pub written : List ℕ
  pub failing : List ℕ
  pub calls : ℕ
  pub faults : ℕ

-- the sink after a call with these bytes and this answer
abbrev pub after_put : MemSinkState → List ℕ → Gave → MemSinkState
after_put sink bytes (Put n) = record sink { written = sink.written ++ take n bytes; calls = next_count sink.calls }
after_put sink bytes Failed = record sink { calls = next_count sink.calls; faults = next_count sink.faults }
