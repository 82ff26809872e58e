use Rattle.std.proofs.Common.{◌≡◌, ◌++◌, ℕ, drop}
use Rattle.std.specs.Bool.{beq}
use Rattle.std.specs.List.{filter}
use Rattle.aw_status.specs.inside.Marks.{is_marked}
use Rattle.aw_status.proofs.marks.chosen.Given as goal

abbrev pub invariant-loop-slot : goal.invariant-loop-slot
invariant-loop-slot l =
    l.chosen.items ++ filter (λ (slot : ℕ). beq (is_marked l.marks slot) l.wanted) (drop l.slot-index l.slots) ≡ filter (λ (slot : ℕ). beq (is_marked l.marks slot) l.wanted) l.slots
