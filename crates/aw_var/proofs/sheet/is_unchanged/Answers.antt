use Rattle.std.proofs.Common.{◌≡◌, ◌∙◌, sym, ap, Some, rules}
use Rattle.std.specs.Option.{option_copied}
use Rattle.aw_var.specs.inside.Sheets.{SheetCells}
use Rattle.aw_var.proofs.SameSheets.{sheet_eq-Decides}
use Rattle.aw_var.proofs.sheet.is_unchanged.Goals as goal

pub returns-in-Some-Some : goal.returns-in-Some-Some
returns-in-Some-Some c = λ same.
    let first : option_copied c.args.before ≡ Some c.in-Some-Some.before.now = search rules in
    let second : option_copied c.args.now ≡ Some c.in-Some-Some.now.now = search rules in
    first ∙ ap (λ (s : SheetCells). Some s) ((sheet_eq-Decides c.in-Some-Some.before.now c.in-Some-Some.now.now).0 (sym c.eq.ensures ∙ same)) ∙ sym second
