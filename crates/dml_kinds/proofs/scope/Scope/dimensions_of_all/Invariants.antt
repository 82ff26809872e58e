use Rattle.std.proofs.Common.{◌≡◌, ◌++◌, [], not, map, filter, take, drop}
use Rattle.std.specs.List.{flat_map}
use Rattle.dml_kinds.specs.Meanings.{names_in}
use Rattle.dml_kinds.specs.FreeDimensions.{target_dimensions}
use Rattle.dml_kinds.proofs.scope.Scope.dimensions_of_all.Given as goal

abbrev pub invariant-loop-target : goal.invariant-loop-target
invariant-loop-target l = l.all.items ++ flat_map (target_dimensions (names_in l.self.catalogue.now l.self.known.now l.self.locals.now)) (map (λ target. target.now) (drop l.target-index l.targets)) ≡ flat_map (target_dimensions (names_in l.self.catalogue.now l.self.known.now l.self.locals.now)) (map (λ target. target.now) l.targets)
