use Rattle.aw_cell.proofs.Utf8.{IsUtf8-text}
use Rattle.aw_cell.proofs.text.Text.as_str.Goals as goal

pub unreachable-requires : goal.unreachable-requires
unreachable-requires c = c.in-Err.ensures.cases.0 (IsUtf8-text c.bytes.result.now c.bytes.ensures.text)
