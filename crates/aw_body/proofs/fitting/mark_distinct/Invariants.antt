use Rattle.std.proofs.Common.{◌≡◌, ◌<◌, ℕ, [], false, nat_eq, length, take, drop, slice_index_or}
use Rattle.std.specs.List.{list_any}
use Rattle.aw_schema.specs.Checking.{first_repeated}
use Rattle.aw_body.proofs.fitting.mark_distinct.Given as goal

abbrev pub invariant-loop-slot : goal.invariant-loop-slot
invariant-loop-slot l = record {
  same : first_repeated (take l.slot-index l.slots) (drop l.slot-index l.slots) ≡ first_repeated [] l.slots;
  marks : (k : ℕ) → k < length l.seen → slice_index_or l.seen k false ≡ list_any (λ other. nat_eq other k) (take l.slot-index l.slots);
}
