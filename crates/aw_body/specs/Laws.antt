-- What holds of bodies and their patches.
use Rattle.std.specs.Prelude.{◌≡◌, ◌≢◌, MatchOption}
use Rattle.aw_body.specs.declared.body.Body.{Body}
use Rattle.aw_body.specs.declared.patch.BodyPatch.{BodyPatch}
use Rattle.aw_body.specs.Bodies.{IsBody, AreAlike}
use Rattle.aw_body.specs.BodyPatches.{applied, difference, composed, CanTake, IsOfItsForm}

-- a patch that makes the newer body of the older one, which differ
pub record MakesNewer (older newer : Body) (patch : BodyPatch) : Type 0 where
  pub differ : older ≢ newer
  pub makes : applied older patch ≡ newer
  pub form : IsOfItsForm older patch
  pub fits : CanTake older patch

-- a difference applied gives the newer body, and there is none exactly where the bodies are equal
abbrev pub DifferenceGivesNewer : Type 0
DifferenceGivesNewer = (older newer : Body) → IsBody older → IsBody newer → AreAlike older newer →
    MatchOption (difference older newer) (older ≡ newer) (MakesNewer older newer)

-- what is composed does what both do
abbrev pub ComposedDoesBoth : Type 0
ComposedDoesBoth = (body : Body) (first second : BodyPatch) → IsBody body → IsOfItsForm body first → IsOfItsForm body second →
    applied (applied body first) second ≡ applied body (composed first second)
