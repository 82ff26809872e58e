use Rattle.std.proofs.Common.{◌≡◌, ◌&&◌, take}
use Rattle.std.specs.List.{filter}
use Rattle.aw_rel.specs.inside.Tables.{children_at, has_none}
use Rattle.aw_rel.specs.inside.Clearing.{is_cleared}
use Rattle.aw_rel.proofs.leaves.leaves_among.Given as goal

abbrev pub invariant-loop-slot : goal.invariant-loop-slot
invariant-loop-slot l = l.leaves ≡ filter (λ slot. has_none (children_at l.children slot) && is_cleared l.marks slot) (take l.slot-index l.slots)
