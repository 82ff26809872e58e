use Rattle.std.proofs.Common.{◌≡◌, ◌++◌, [], not, map, filter, take, drop}
use Rattle.dml_kinds.specs.Meanings.{names_in}
use Rattle.dml_kinds.specs.FreeDimensions.{is_fixed}
use Rattle.dml_kinds.proofs.scope.Scope.push_dimensions.Given as goal

abbrev pub invariant-loop-dimension : goal.invariant-loop-dimension
invariant-loop-dimension l = l.into.items ++ filter (λ d. not (is_fixed (names_in l.self.catalogue.now l.self.known.now l.self.locals.now) l.target.fixes d)) (drop l.dimension-index l.dimension-items) ≡ l.initial.into.items ++ filter (λ d. not (is_fixed (names_in l.self.catalogue.now l.self.known.now l.self.locals.now) l.target.fixes d)) l.dimension-items
