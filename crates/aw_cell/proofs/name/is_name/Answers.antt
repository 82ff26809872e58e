use Rattle.std.proofs.Common.{◌∙◌, sym}
use Rattle.aw_cell.proofs.callers.NameTexts.{is_text-name_form}
use Rattle.aw_cell.proofs.name.is_name.Goals as goal

pub returns-then-has_name_form-clause-text : goal.returns-then-has_name_form-clause-text
returns-then-has_name_form-clause-text c free = is_text-name_form c.args.word.now (sym c.has_name_form.ensures ∙ c.if-has_name_form.true)
