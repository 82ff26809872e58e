use Rattle.std.proofs.Common.{◌≡◌, refl, rules}
use Rattle.std.proofs.lemmas.Slice.Eq.{slice_eq-Decides}
use Rattle.aw_cell.specs.SameCell.{same_cell-Decides}
use Rattle.aw_cell.specs.Cell.{same_cell}
use Rattle.aw_page.specs.inside.Plain.{plain_cell}
use Rattle.aw_page.proofs.Lists.{pointwise-by}
use Rattle.aw_page.proofs.page.PagePartialEq.eq.Goals as goal

pub returns-clause-same : goal.returns-clause-same
returns-clause-same c = rw (← c.self.view_is, ← c.other.view_is, c.eq.ensures) (pointwise-by plain_cell _ same_cell (λ a b. refl) c.self.inside.cells c.other.inside.cells)

pub returns-clause-equal : goal.returns-clause-equal
returns-clause-equal c = slice_eq-Decides same_cell-Decides _ _ _ (returns-clause-same c)
