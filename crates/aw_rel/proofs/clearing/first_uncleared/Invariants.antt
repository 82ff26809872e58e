use Rattle.std.proofs.Common.{◌≡◌, not, drop}
use Rattle.std.specs.List.{find}
use Rattle.aw_rel.specs.inside.Clearing.{is_cleared}
use Rattle.aw_rel.proofs.clearing.first_uncleared.Given as goal

abbrev pub invariant-loop-slot : goal.invariant-loop-slot
invariant-loop-slot l = find (λ slot. not (is_cleared l.cleared slot)) (drop l.slot-index l.slots) ≡ find (λ slot. not (is_cleared l.cleared slot)) l.slots
