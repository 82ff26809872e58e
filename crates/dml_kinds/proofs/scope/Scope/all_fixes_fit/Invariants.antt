use Rattle.std.proofs.Common.{◌≡◌, ◌++◌, [], not, map, filter, take, drop}
use Rattle.std.specs.List.{list_all}
use Rattle.dml_kinds.specs.Meanings.{names_in}
use Rattle.dml_kinds.specs.FreeDimensions.{fixes_fit}
use Rattle.dml_kinds.proofs.scope.Scope.all_fixes_fit.Given as goal

abbrev pub invariant-loop-target : goal.invariant-loop-target
invariant-loop-target l = list_all (fixes_fit (names_in l.self.catalogue.now l.self.known.now l.self.locals.now)) (map (λ target. target.now) (drop l.target-index l.targets)) ≡ list_all (fixes_fit (names_in l.self.catalogue.now l.self.known.now l.self.locals.now)) (map (λ target. target.now) l.targets)
