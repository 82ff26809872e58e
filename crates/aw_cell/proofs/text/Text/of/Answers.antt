use Rattle.std.proofs.Common.{arith}
use Rattle.std.proofs.lemmas.Bool.Decides.{nat_tests}
use Rattle.std.proofs.lemmas.List.{drop-replicate}
use Rattle.std.specs.Prelude.{length}
use Rattle.aw_cell.proofs.Padding.{IsPadded-append}
use Rattle.aw_cell.proofs.text.Text.of.Goals as goal

-- the bytes are copied over the first of 64 zeros
pub invariant_of-result : goal.invariant_of-result
invariant_of-result c =
    rw c.copy_from_slice.ensures.after
    (IsPadded-append c.args.bytes.now _ (omega arith)
    (grind (arith, nat_tests, c.are_text_bytes.ensures, c.if-not-are_text_bytes.false))
    (drop-replicate (length c.args.bytes.now) 64 0))
