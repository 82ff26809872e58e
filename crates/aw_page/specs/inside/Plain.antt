-- How a page keeps its cells.
use Rattle.aw_cell.specs.declared.cell.Cell.{Cell}
use Rattle.aw_cell.specs.declared.cell.Cell.TheVariants.{Na, Num, Int, Bool, Slot}
use Rattle.aw_page.specs.declared.page.Plain.{Plain}
use Rattle.aw_page.specs.declared.page.Plain.TheVariants.{Na as NoValue, Num as PlainNumber, Int as PlainInteger, Bool as PlainTruth, Slot as PlainSlot}

-- the cell that stands for one in a page
abbrev pub plain_cell : Plain → Cell
plain_cell NoValue = Na
plain_cell (PlainNumber a) = Num a
plain_cell (PlainInteger a) = Int a
plain_cell (PlainTruth a) = Bool a
plain_cell (PlainSlot a) = Slot a
