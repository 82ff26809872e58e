use Rattle.std.proofs.Common.{◌≡◌, [], drop}
use Rattle.dml_kinds.specs.Meanings.{names_in}
use Rattle.dml_kinds.specs.Names.{repeated_after}
use Rattle.dml_kinds.proofs.scope.Scope.repeated.Given as goal

abbrev pub invariant-loop-name : goal.invariant-loop-name
invariant-loop-name l =
    repeated_after (names_in l.self.catalogue.now l.self.known.now l.self.locals.now) l.before.items (drop l.name-index l.names)
    ≡ repeated_after (names_in l.self.catalogue.now l.self.known.now l.self.locals.now) [] l.names
