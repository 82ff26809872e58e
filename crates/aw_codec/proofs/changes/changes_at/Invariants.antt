use Rattle.std.specs.Prelude.{◌≡◌, ◌-◌, []}
use Rattle.aw_codec.specs.Formats.{many}
use Rattle.aw_codec.specs.Parsing.{reading}
use Rattle.aw_codec.specs.RecordFormat.{change}
use Rattle.aw_codec.proofs.changes.changes_at.Given as goal

-- what was read so far, and what the rest gives, are what all gives
abbrev pub invariant-loop : goal.invariant-loop
invariant-loop l = reading (many change (l.count - l.counter) l.changes.items) l.bytes l.behind ≡ reading (many change l.count []) l.bytes l.at
