use Rattle.std.proofs.Common.{◌≡◌, ◌++◌, [], not, map, filter, take, drop}
use Rattle.dml_kinds.specs.Meanings.{names_in}
use Rattle.dml_kinds.specs.Names.{first_of, unknown}
use Rattle.dml_kinds.proofs.scope.Scope.first_unknown.Given as goal

abbrev pub invariant-loop-needed : goal.invariant-loop-needed
invariant-loop-needed l = first_of (unknown (names_in l.self.catalogue.now l.self.known.now l.self.locals.now)) (drop l.needed-index l.uses) ≡ first_of (unknown (names_in l.self.catalogue.now l.self.known.now l.self.locals.now)) l.uses
