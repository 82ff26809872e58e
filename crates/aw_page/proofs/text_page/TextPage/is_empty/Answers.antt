use Rattle.aw_page.specs.Fitting.{is_na}
use Rattle.aw_page.specs.inside.Texts.{text_cell}
use Rattle.aw_page.proofs.Lists.{list_all-map}
use Rattle.aw_page.proofs.text_page.TextPage.is_empty.Goals as goal

pub returns : goal.returns
returns c = rw (← c.self.view_is, c.are_na.ensures, list_all-map)
