use Rattle.std.specs.Prelude.{◌≡◌, ◌≤◌, ◌*◌, length, take}
use Rattle.std.specs.List.{sum_by}
use Rattle.aw_codec.specs.Spellings as spelling
use Rattle.aw_codec.proofs.sizes.changes_len.Given as goal

abbrev pub invariant-loop-change : goal.invariant-loop-change
invariant-loop-change l = record {
  total : l.total ≡ sum_by (λ part. length (spelling.change part)) (take l.change-index l.changes);
  most : l.total ≤ 1500000000000000000002 * l.change-index;
}
