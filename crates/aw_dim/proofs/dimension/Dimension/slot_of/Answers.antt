use Rattle.std.proofs.Common.{◌∙◌, rules}
use Rattle.aw_dim.proofs.LookUps.{slot-listed}
use Rattle.aw_dim.proofs.NameIndexes.{RanksBy}
use Rattle.aw_dim.proofs.dimension.Dimension.slot_of.Goals as goal

pub returns : goal.returns
returns c =
    let ranks : RanksBy c.self.inside.entries.items c.self.inside.places.items c.self.inside.by_name.items c.args.name.now c.rank-at.result =
    rw (← c.as_slice-entries.ensures.value, ← c.as_slice-places.ensures.value, ← c.as_slice.ensures.value, ← c.bytes.ensures.value) c.rank-at.ensures.splits in
    rw (← c.self.view_is)
    ((rw (c.as_slice-entries.ensures.value, c.as_slice-places.ensures.value, c.as_slice-2.ensures.value, c.bytes-2.ensures.value) at c.slot_at.ensures)
    ∙ slot-listed (record { entries = c.self.inside.entries.items; next = 0 }) c.self.inside.places.items c.self.inside.by_name.items c.self.invariant.placed c.self.invariant.indexed c.args.name.now c.rank-at.result ranks)
