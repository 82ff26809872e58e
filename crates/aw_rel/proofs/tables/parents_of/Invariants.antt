use Rattle.std.proofs.Common.{◌≡◌, [], ◌∷◌, length, take}
use Rattle.aw_var.specs.CellMap.{cell_at}
use Rattle.aw_rel.specs.Hierarchy.{parent_of}
use Rattle.aw_rel.specs.inside.Tables.{AreParents}
use Rattle.aw_rel.proofs.tables.parents_of.Given as goal

abbrev pub invariant-loop-slot : goal.invariant-loop-slot
invariant-loop-slot l = AreParents (λ slot. parent_of l.dimension (cell_at l.relation.cells (slot ∷ []))) (take l.slot-index l.slots) l.parents.items × (length l.parents.items ≡ l.room)
