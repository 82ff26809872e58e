use Rattle.std.proofs.Common.{◌≡◌, Some, None, ◌∙◌, rules}
use Rattle.aw_dim.specs.DimensionState.{slot_of}
use Rattle.dim_maintain.proofs.Apart.{on_ok}
use Rattle.dim_maintain.proofs.ByName.{known_slot, renamed_one, renamed_none}
use Rattle.dim_maintain.proofs.changing.rename_one.Goals as goal

pub returns-in-Some : goal.returns-in-Some
returns-in-Some c =
    let is : slot_of c.args.made.now c.args.old.now ≡ Some c.in-Some.slot = search rules in
    on_ok c.rename.result (c.rename.ensures.some.1 (known_slot c.args.made.now c.is_dimension.ensures c.args.old.now c.in-Some.slot is, c.requires.unused)) c.rename.ensures.ok
    ∙ renamed_one c.args.made.now c.is_dimension.ensures c.args.old.now c.in-Some.slot c.args.new.now is

pub returns-in_default : goal.returns-in_default
returns-in_default c =
    let is : slot_of c.args.made.now c.args.old.now ≡ None = search rules in
    renamed_none c.args.made.now c.is_dimension.ensures c.args.old.now c.args.new.now is
