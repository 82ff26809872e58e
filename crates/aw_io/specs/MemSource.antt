-- A source over bytes in memory that fails at listed calls.
use Rattle.std.specs.Prelude.{ℕ, List, drop}
use Rattle.aw_io.specs.declared.source.Took.{Took}
use Rattle.aw_io.specs.declared.source.Took.TheVariants.{Got, End, Failed}
use Rattle.aw_lists.specs.Faults.{next_count}

-- the bytes left to give, the numbers of the calls that fail, the number of the next call, and the faults
pub record MemSourceState : Type 0 where
  pub left : List ℕ
  pub failing : List ℕ
  pub calls : ℕ
  pub faults : ℕ

-- the source after a call with this answer
abbrev pub after_take : MemSourceState → Took → MemSourceState
after_take source (Got n) = record source { left = drop n source.left; calls = next_count source.calls }
after_take source End = record source { calls = next_count source.calls }
after_take source Failed = record source { calls = next_count source.calls; faults = next_count source.faults }
