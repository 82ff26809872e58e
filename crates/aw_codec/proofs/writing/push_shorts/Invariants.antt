use Rattle.std.specs.Prelude.{ℕ, ◌≡◌, ◌<◌, ◌++◌, take}
use Rattle.std.proofs.Common.{get_or}
use Rattle.aw_codec.specs.Spellings as spelling
use Rattle.aw_codec.proofs.writing.push_shorts.Given as goal

abbrev pub invariant-loop-number : goal.invariant-loop-number
invariant-loop-number l = record {
  bytes : l.out.items ≡ l.initial.out.items ++ spelling.shorts (take l.number-index l.numbers);
  range : (k d : ℕ) → k < l.number-index → get_or l.numbers k d < 65536;
}
