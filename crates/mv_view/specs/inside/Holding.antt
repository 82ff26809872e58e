-- Bodies that hold cells.
use Rattle.aw_body.specs.declared.body.Body.{Body}
use Rattle.aw_body.specs.declared.body.Body.TheVariants.{Dim, Rel, Set, Var}

abbrev pub HoldsCells : Body → Type 0
HoldsCells (Rel contents) = Unit {0}
HoldsCells (Var contents) = Unit {0}
HoldsCells (Dim values) = ⊥
HoldsCells (Set slots) = ⊥
