-- The generations that changes make, before they are put in place.
use Rattle.std.specs.Prelude.{◌<◌, ◌+◌, List, Option, Some, None}
use Rattle.std.specs.List.{filter_map}
use Rattle.std.specs.Option.{option_map}
use Rattle.aw_body.specs.declared.body.Body.{Body}
use Rattle.aw_body.specs.declared.change.Change.{Change}
use Rattle.aw_body.specs.declared.change.Fresh.{Fresh}
use Rattle.aw_body.specs.BodyPatches.{applied, CanTake}
use Rattle.mv_core.specs.declared.object.Object.{Object}
use Rattle.mv_core.specs.Lookups.{kept_at}

-- what a change makes of the object that was looked up
abbrev pub made_by : Change → Object Body → Fresh
made_by c it = record { object = c.object; number = it.number + 1; body = applied it.body c.patch }

abbrev pub made_of : List (Option (Object Body)) → List Change → List Fresh
made_of objects changes = filter_map (λ (c : Change). option_map (made_by c) (kept_at objects c.object)) changes

-- the object's number can rise, and its body can take the patch
abbrev pub CanMake : Change → Option (Object Body) → Type 0
CanMake c None = Unit {0}
CanMake c (Some it) = (it.number < 18446744073709551615) × CanTake it.body c.patch

abbrev pub IsMakable : List (Option (Object Body)) → Change → Type 0
IsMakable objects c = CanMake c (kept_at objects c.object)
