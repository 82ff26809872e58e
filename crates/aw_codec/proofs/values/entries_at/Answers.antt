use Rattle.std.specs.Prelude.{ℕ, ◌≤◌, List, [], Result, Ok, Err, IfOk}
use Rattle.std.proofs.Common.{arith}
use Rattle.aw_dim.specs.DimensionState.{Entry, IsDimension}
use Rattle.aw_codec.specs.declared.record.BadRecord.{BadRecord}
use Rattle.aw_codec.specs.Formats.{many}
use Rattle.aw_codec.specs.Parsing.{Gives, reading}
use Rattle.aw_codec.specs.RecordFormat.{value}
use Rattle.aw_codec.proofs.Parts.{AreBytes}
use Rattle.aw_codec.proofs.DimensionRead.{dimension_read}
use Rattle.aw_codec.proofs.values.entries_at.Goals as goal

of_result : (next count : ℕ) (bytes : List ℕ) (at : ℕ) (result : Result (List Entry × ℕ) BadRecord) → AreBytes bytes → next ≤ 65536 → Gives (λ x. (x.0, x.1)) result (reading (many (value next) count []) bytes at)
    → IfOk result (λ x. IsDimension (record { entries = x.0; next = next }))
of_result next count bytes at (Ok x) each most given = dimension_read next count bytes at x.0 x.1 each most given
of_result next count bytes at (Err e) each most given = tt

pub returns-clause-dimension : goal.returns-clause-dimension
returns-clause-dimension c = of_result c.args.next c.args.count c.args.bytes.now c.args.at c.read_entries.result (λ i. omega (arith, c.type_inv.bytes i)) c.requires c.read_entries.ensures
