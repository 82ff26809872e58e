use Rattle.std.specs.Prelude.{◌≡◌, ◌-◌, [], length}
use Rattle.aw_codec.specs.Formats.{many}
use Rattle.aw_codec.specs.Parsing.{reading}
use Rattle.aw_codec.specs.RecordFormat.{other_slot}
use Rattle.aw_codec.specs.inside.Seen.{AreMarked, is_slot}
use Rattle.aw_codec.proofs.slots.other_slots_at.Given as goal

-- what was read so far, and what the rest gives, are what all gives
abbrev pub invariant-loop : goal.invariant-loop
invariant-loop l = record {
  read : reading (many other_slot (l.count - l.counter) l.read.slots.items) l.bytes l.behind ≡ reading (many other_slot l.count []) l.bytes l.at;
  all : length l.read.marks.items ≡ 65536;
  marked : AreMarked (is_slot l.read.slots.items) l.read.marks.items;
}
