use Rattle.std.proofs.Common.{◌≡◌, ℕ, true, take}
use Rattle.aw_rel.specs.Hierarchy.{is_among}
use Rattle.aw_rel.specs.inside.Clearing.{IsClearing, IsSettled}
use Rattle.aw_rel.proofs.clearing.cleared.Given as goal

abbrev pub invariant-loop-slot : goal.invariant-loop-slot
invariant-loop-slot l = IsClearing l.parents l.children l.clearing.cleared.items l.clearing.passed.items l.clearing.upward.items × ((slot : ℕ) → is_among (take l.slot-index l.slots) slot ≡ true → IsSettled l.parents l.clearing.cleared.items slot)
