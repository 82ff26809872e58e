use Rattle.std.proofs.Common.{◌≡◌, true, false, sym}
use Rattle.aw_cell.proofs.callers.NameTexts.{is_text-name_form}
use Rattle.dml_tree.proofs.Named.{no_word}
use Rattle.dml_tree.proofs.next.name.Goals as goal

pub unreachable-requires : goal.unreachable-requires
unreachable-requires c = let both : false ≡ true = c.in-None.ensures.some.1 (is_text-name_form c.args.word.now c.requires) in cc

pub returns : goal.returns
returns c = (no_word c.args.word.now c.requires (sym c.in_default.ensures), sym c.in-Some-of.ensures.value)
