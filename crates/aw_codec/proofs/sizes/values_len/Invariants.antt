use Rattle.std.specs.Prelude.{◌≡◌, ◌≤◌, ◌*◌, length, take}
use Rattle.std.specs.List.{sum_by}
use Rattle.aw_codec.specs.Spellings as spelling
use Rattle.aw_codec.proofs.sizes.values_len.Given as goal

abbrev pub invariant-loop-entry : goal.invariant-loop-entry
invariant-loop-entry l = record {
  total : l.total ≡ sum_by (λ part. length (spelling.value part)) (take l.entry-index l.entries);
  most : l.total ≤ 67 * l.entry-index;
}
