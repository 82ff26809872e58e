-- What holds of a view's places, and of the list of the objects that it owns.
use Rattle.std.specs.Prelude.{ℕ, ◌≡◌, ◌≤◌, List, Option, length}
use Rattle.mv_view.specs.Each.{numbers_from}
use Rattle.mv_view.specs.ViewState.{ObjectView, AreSeen, is_owned}

-- the owned objects are listed in rising order, with room for all
pub record IsListed (objects : List (Option ObjectView)) (those : List ℕ) (room : ℕ) : Type 0 where
  pub owned : those ≡ numbers_from is_owned 0 objects
  pub places : length objects ≤ room
  pub seen : AreSeen objects
