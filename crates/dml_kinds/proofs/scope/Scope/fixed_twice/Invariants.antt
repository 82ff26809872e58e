use Rattle.std.proofs.Common.{◌≡◌, ◌++◌, [], not, map, filter, take, drop}
use Rattle.dml_kinds.specs.Meanings.{names_in}
use Rattle.dml_kinds.specs.Names.{first_of, repeated, groups}
use Rattle.dml_kinds.proofs.scope.Scope.fixed_twice.Given as goal

abbrev pub invariant-loop-target : goal.invariant-loop-target
invariant-loop-target l = first_of (repeated (names_in l.self.catalogue.now l.self.known.now l.self.locals.now)) (groups (map (λ target. target.now) (drop l.target-index l.targets))) ≡ first_of (repeated (names_in l.self.catalogue.now l.self.known.now l.self.locals.now)) (groups (map (λ target. target.now) l.targets))
