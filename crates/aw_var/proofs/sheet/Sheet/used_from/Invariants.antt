use Rattle.std.proofs.Common.{◌≡◌, ℕ}
use Rattle.aw_var.specs.inside.Walks.{used_on}
use Rattle.aw_var.proofs.sheet.Sheet.used_from.Given as goal

abbrev pub invariant-loop-place : goal.invariant-loop-place
invariant-loop-place l = (start : ℕ) → used_on start l.self.1 l.fn.from ≡ used_on start l.self.1 l.place
