use Rattle.std.proofs.Common.{◌≡◌, ℕ, List, false, sym, subst}
use Rattle.std.specs.Bool.{beq}
use Rattle.std.specs.List.{filter}
use Rattle.std.specs.Result.{IfOk}
use Rattle.aw_status.specs.Rules.{removed}
use Rattle.aw_status.specs.inside.Marks.{AreMarks, is_marked}
use Rattle.aw_status.proofs.Choosing.{removed_chosen}
use Rattle.aw_status.proofs.status.unlisted.Goals as goal

pub returns : goal.returns
returns c =
    let marks : AreMarks c.room.result c.args.list.now c.as_slice.result.now = subst (AreMarks c.room.result c.args.list.now) (sym c.as_slice.ensures.value) c.in_ok-marks.ensures in
    let same : filter (λ (slot : ℕ). beq (is_marked c.as_slice.result.now slot) false) c.args.slots.now ≡ removed c.args.slots.now c.args.list.now = removed_chosen c.room.result c.args.slots.now c.args.list.now c.as_slice.result.now marks (c.room.ensures c.args.slots.now c.requires.slots) in
    subst (λ (xs : List ℕ). IfOk c.chosen.result (λ chosen. chosen.items ≡ xs)) same c.chosen.ensures
