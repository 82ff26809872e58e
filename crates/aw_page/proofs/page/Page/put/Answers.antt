use Rattle.std.proofs.Common.{refl, sym, ap, ◌∙◌, slice_set, map}
use Rattle.std.proofs.lemmas.List.{map-set}
use Rattle.aw_page.specs.inside.Plain.{plain_cell}
use Rattle.aw_page.proofs.page.Page.put.Goals as goal

pub returns-clause-cell : goal.returns-clause-cell
returns-clause-cell c =
    map-set plain_cell c.self.inside.cells c.args.at c.plain_of.result
    ∙ ap (λ x. slice_set (map plain_cell c.self.inside.cells) c.args.at x) c.plain_of.ensures
    ∙ ap (λ xs. slice_set xs c.args.at c.args.cell) c.self.view_is
