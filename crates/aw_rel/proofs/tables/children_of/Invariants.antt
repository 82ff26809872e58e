use Rattle.std.proofs.Common.{◌≡◌, length, take}
use Rattle.aw_rel.specs.inside.Tables.{AreChildren}
use Rattle.aw_rel.proofs.tables.children_of.Given as goal

abbrev pub invariant-loop-slot : goal.invariant-loop-slot
invariant-loop-slot l = AreChildren l.parents (take l.slot-index l.slots) l.children × (length l.children ≡ length l.parents)
