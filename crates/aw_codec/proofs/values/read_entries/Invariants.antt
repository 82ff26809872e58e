use Rattle.std.specs.Prelude.{◌≡◌, ◌-◌, [], length}
use Rattle.std.specs.HashSet.{contains}
use Rattle.aw_codec.specs.Formats.{many}
use Rattle.aw_codec.specs.Parsing.{reading}
use Rattle.aw_codec.specs.RecordFormat.{value}
use Rattle.aw_codec.specs.inside.Seen.{AreMarked, AreHeld, has_slot, same_bytes}
use Rattle.aw_codec.proofs.values.read_entries.Given as goal

-- what was read so far, and what the rest gives, are what all gives
abbrev pub invariant-loop : goal.invariant-loop
invariant-loop l = record {
  read : reading (many (value l.next) (l.count - l.counter) l.read.entries.items) l.bytes l.behind ≡ reading (many (value l.next) l.count []) l.bytes l.at;
  all : length l.read.marks.items ≡ l.next;
  marked : AreMarked (has_slot l.read.entries.items) l.read.marks.items;
  held : AreHeld l.read.entries.items (contains same_bytes l.read.names);
}
