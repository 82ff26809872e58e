use Rattle.std.specs.Prelude.{ℕ, List, ◌≡◌, ◌<◌, ◌++◌, take}
use Rattle.std.specs.List.{flat_map}
use Rattle.std.proofs.Common.{get_or}
use Rattle.aw_cell.specs.declared.cell.Cell.{Cell}
use Rattle.aw_codec.specs.Records.{IsKeyedCell}
use Rattle.aw_codec.specs.Spellings as spelling
use Rattle.aw_codec.proofs.writing.push_keyed_cells.Given as goal

abbrev pub invariant-loop-change : goal.invariant-loop-change
invariant-loop-change l = record {
  bytes : l.out.items ≡ l.initial.out.items ++ flat_map spelling.keyed_cell (take l.change-index l.changes);
  are : (k : ℕ) (d : List ℕ × Cell) → k < l.change-index → IsKeyedCell (get_or l.changes k d);
}
