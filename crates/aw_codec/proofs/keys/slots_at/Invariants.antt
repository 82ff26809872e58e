use Rattle.std.specs.Prelude.{◌≡◌, ◌-◌, [], nat_le, length, take}
use Rattle.std.specs.Option.{option_copied}
use Rattle.std.specs.Int.{w16}
use Rattle.aw_codec.specs.Formats.{number, many}
use Rattle.aw_codec.specs.Parsing.{reading}
use Rattle.aw_codec.specs.RecordFormat.{least_slot}
use Rattle.aw_codec.proofs.keys.slots_at.Given as goal

-- what was read so far, and what the rest gives, are what all gives
abbrev pub invariant-loop-place : goal.invariant-loop-place
invariant-loop-place l = record {
  read : reading (many (λ slots. number w16 (nat_le (least_slot l.size (option_copied l.previous) slots))) (l.size - l.place) (take l.place l.slots)) l.bytes l.behind
      ≡ reading (many (λ slots. number w16 (nat_le (least_slot l.size (option_copied l.previous) slots))) l.size []) l.bytes l.at;
  room : length l.slots ≡ 6;
}
