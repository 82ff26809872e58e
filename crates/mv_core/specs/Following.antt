-- What a commit that was made before leaves when it is followed: what replaying a disk does with each record.
use Rattle.std.specs.Prelude.{List, [], ◌∷◌, ◌++◌}
use Rattle.aw_body.specs.declared.change.Change.{Change}
use Rattle.mv_core.specs.Effects.{committed}
use Rattle.mv_core.specs.Workspace.{Workspace, Table}

-- the commits grow by these changes, and nobody owns more or less
abbrev pub followed_by : Workspace → List Change → Workspace
followed_by w changes = record w { history = w.history ++ changes ∷ [] }

-- the same on the objects as they stand alone
abbrev pub table_followed : Table → List Change → Table
table_followed table changes = record table { objects = committed table.objects changes }
