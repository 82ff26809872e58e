use Rattle.std.proofs.Common.{rules}
use Rattle.std.specs.Prelude.{IsTrue}
use Rattle.aw_codec.specs.Records.{are_recordable}
use Rattle.aw_codec.proofs.Kept.{cells_recorded}
use Rattle.aw_codec.proofs.writing.push_patch.Goals as goal

pub push_keyed_cells-requires : goal.push_keyed_cells-requires
push_keyed_cells-requires c =
    let form : IsTrue (are_recordable c.as_slice-in-Cells-2.result.now) = search rules in
    cells_recorded c.as_slice-in-Cells-2.result.now form
