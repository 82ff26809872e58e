use Rattle.std.proofs.Common.{◌+◌, length}
use Rattle.aw_var.proofs.GoingOver.{StillToCome}
use Rattle.aw_var.proofs.numbered.Numbered.patch_since.Given as goal

abbrev pub invariant-pages : goal.invariant-pages
invariant-pages l = StillToCome l.fn.self.kind l.slots l.theirs l.ours l.patch.items l.fn.older.cells l.fn.self.cells

abbrev pub decreases-pages : goal.decreases-pages
decreases-pages l = length l.theirs + length l.ours
