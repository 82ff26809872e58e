use Rattle.aw_rel.specs.inside.Clearing.{IsClimbing}
use Rattle.aw_rel.proofs.Filling.{uncleared}
use Rattle.aw_rel.proofs.clearing.Clearing.climb.Given as goal

abbrev pub invariant-steps : goal.invariant-steps
invariant-steps l = IsClimbing l.parents l.children l.fn.self.cleared.items l.self.cleared.items l.self.passed.items l.self.upward.items l.from l.next

abbrev pub decreases-steps : goal.decreases-steps
decreases-steps l = uncleared l.self.cleared.items
