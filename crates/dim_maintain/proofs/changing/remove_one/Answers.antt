use Rattle.std.proofs.Common.{◌≡◌, Some, None, ◌∙◌, rules}
use Rattle.aw_dim.specs.DimensionState.{slot_of}
use Rattle.dim_maintain.proofs.Apart.{on_ok}
use Rattle.dim_maintain.proofs.ByName.{known_slot, removed_one, removed_none}
use Rattle.dim_maintain.proofs.changing.remove_one.Goals as goal

pub returns-in-Some : goal.returns-in-Some
returns-in-Some c =
    let is : slot_of c.args.made.now c.args.name.now ≡ Some c.in-Some.slot = search rules in
    on_ok c.remove.result (c.remove.ensures.some.1 (known_slot c.args.made.now c.is_dimension.ensures c.args.name.now c.in-Some.slot is)) c.remove.ensures.ok
    ∙ removed_one c.args.made.now c.is_dimension.ensures c.args.name.now c.in-Some.slot is

pub returns-in_default : goal.returns-in_default
returns-in_default c =
    let is : slot_of c.args.made.now c.args.name.now ≡ None = search rules in
    removed_none c.args.made.now c.is_dimension.ensures c.args.name.now is
