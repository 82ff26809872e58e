use Rattle.std.proofs.Common.{◌≡◌, refl, List, ℕ, Option, Some, None}
use Rattle.std.proofs.lemmas.Slice.Eq.{slice_eq-Decides}
use Rattle.std.specs.Option.{option_eq}
use Rattle.std.specs.Str.{bytes_eq}
use Rattle.aw_cell.specs.SameCell.{same_cell-Decides}
use Rattle.aw_cell.specs.Cell.{same_cell}
use Rattle.aw_page.specs.inside.Texts.{text_cell}
use Rattle.aw_page.proofs.Lists.{pointwise-by}
use Rattle.aw_page.proofs.text_page.TextPagePartialEq.eq.Goals as goal

agrees : (a b : Option (List ℕ)) → option_eq bytes_eq a b ≡ same_cell (text_cell a) (text_cell b)
agrees None None = refl
agrees None (Some b) = refl
agrees (Some a) None = refl
agrees (Some a) (Some b) = refl

pub returns-clause-same : goal.returns-clause-same
returns-clause-same c = rw (← c.self.view_is, ← c.other.view_is, c.eq.ensures) (pointwise-by text_cell _ same_cell agrees c.self.inside.texts c.other.inside.texts)

pub returns-clause-equal : goal.returns-clause-equal
returns-clause-equal c = slice_eq-Decides same_cell-Decides _ _ _ (returns-clause-same c)
