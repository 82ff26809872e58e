use Rattle.std.specs.Prelude.{ℕ, ◌≡◌, ◌<◌, ◌++◌, take}
use Rattle.std.specs.List.{flat_map}
use Rattle.std.proofs.Common.{get_or}
use Rattle.aw_body.specs.declared.change.Change.{Change}
use Rattle.aw_codec.specs.Records.{IsChange}
use Rattle.aw_codec.specs.Spellings as spelling
use Rattle.aw_codec.proofs.writing.push_changes.Given as goal

abbrev pub invariant-loop-change : goal.invariant-loop-change
invariant-loop-change l = record {
  bytes : l.out.items ≡ l.initial.out.items ++ flat_map spelling.change (take l.change-index l.changes);
  are : (k : ℕ) (d : Change) → k < l.change-index → IsChange (get_or l.changes k d);
}
