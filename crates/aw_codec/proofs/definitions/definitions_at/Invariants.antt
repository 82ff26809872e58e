use Rattle.std.specs.Prelude.{◌≡◌, ◌-◌, []}
use Rattle.aw_codec.specs.Formats.{many}
use Rattle.aw_codec.specs.Parsing.{reading}
use Rattle.aw_codec.specs.RecordFormat.{definition}
use Rattle.aw_codec.proofs.definitions.definitions_at.Given as goal

-- what was read so far, and what the rest gives, are what all gives
abbrev pub invariant-loop : goal.invariant-loop
invariant-loop l = reading (many (λ _. definition) (l.count - l.counter) l.defs.items) l.bytes l.behind ≡ reading (many (λ _. definition) l.count []) l.bytes l.at
