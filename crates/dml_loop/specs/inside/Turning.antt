-- Where a turn of the wheels stands: those from a place on were at their last slots, and are at the first again.
use Rattle.std.specs.Prelude.{◌≡◌, ℕ, ◌∷◌, [], ◌++◌, false, List, length, map}
use Rattle.dml_loop.specs.inside.Wheels.{WheelView, has_next, stepped}

abbrev pub AreAtLast : List WheelView → Type 0
AreAtLast [] = Unit {0}
AreAtLast (wheel ∷ wheels) = (has_next wheel ≡ false) × AreAtLast wheels

-- the wheels from a place on were turned
pub record HasTurned (before now : List WheelView) (at : ℕ) : Type 0 where
  pub front : List WheelView
  pub back : List WheelView
  pub len : length front ≡ at
  pub were : before ≡ front ++ back
  pub are : now ≡ front ++ map stepped back
  pub last : AreAtLast back
