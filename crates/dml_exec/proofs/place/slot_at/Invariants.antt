use Rattle.std.proofs.Common.{◌≡◌, drop}
use Rattle.dml_exec.specs.Meaning.{slot_at}
use Rattle.dml_exec.proofs.place.slot_at.Given as goal

abbrev pub invariant-loop-of : goal.invariant-loop-of
invariant-loop-of l = slot_at (drop l.of-index l.place) l.dimension ≡ slot_at l.place l.dimension
