use Rattle.std.specs.Prelude.{◌≡◌, ◌-◌, []}
use Rattle.aw_codec.specs.Formats.{many}
use Rattle.aw_codec.specs.Parsing.{reading}
use Rattle.aw_codec.specs.RecordFormat.{keyed_cell}
use Rattle.aw_codec.proofs.patches.keyed_cells_at.Given as goal

-- what was read so far, and what the rest gives, are what all gives
abbrev pub invariant-loop : goal.invariant-loop
invariant-loop l = reading (many (keyed_cell l.size) (l.count - l.counter) l.changes.items) l.bytes l.behind ≡ reading (many (keyed_cell l.size) l.count []) l.bytes l.at
