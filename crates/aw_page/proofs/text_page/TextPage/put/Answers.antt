use Rattle.std.proofs.Common.{refl, sym, ap, ◌∙◌, slice_set, map}
use Rattle.std.proofs.lemmas.List.{map-set}
use Rattle.aw_page.specs.inside.Texts.{text_cell}
use Rattle.aw_page.proofs.text_page.TextPage.put.Goals as goal

pub returns-clause-cell : goal.returns-clause-cell
returns-clause-cell c =
    map-set text_cell c.self.inside.texts c.args.at c.text_of.result
    ∙ ap (λ x. slice_set (map text_cell c.self.inside.texts) c.args.at x) c.text_of.ensures
    ∙ ap (λ xs. slice_set xs c.args.at c.args.cell) c.self.view_is
