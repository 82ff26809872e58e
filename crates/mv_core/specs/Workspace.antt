-- What the sessions of a workspace share: the definitions, the commits so far and the owners. Everything else follows from
-- these.
use Rattle.std.specs.Prelude.{ℕ, ◌+◌, List, [], ◌∷◌, Option, Some, None, if◌then◌else◌}
use Rattle.aw_schema.specs.declared.definition.Def.{Def}
use Rattle.aw_schema.specs.Definitions.{is_kept}
use Rattle.aw_body.specs.declared.body.Body.{Body}
use Rattle.aw_body.specs.declared.change.Change.{Change}
use Rattle.aw_body.specs.Generations.{Bodies, latest_number, latest_body}
use Rattle.aw_body.specs.Owners.{Owners, owner_of}
use Rattle.mv_core.specs.declared.object.Object.{Object}

pub record Workspace : Type 0 where
  pub definitions : List Def
  -- the commits, the oldest first, each with its changes
  pub history : List (List Change)
  pub owners : Owners

-- before any commit, and with nothing owned
abbrev pub opened : List Def → Workspace
opened definitions = record { definitions = definitions; history = []; owners = [] }

-- Objects as they stand: of each definition, in order, the latest generation and its owner, or none where the definition is
-- of a kind that isn't kept.
pub record Table : Type 0 where
  pub definitions : List Def
  pub objects : List (Option (Object Body))

module _ (bodies : Bodies Body Change) where
  -- an object as the commits and the owners have it
  abbrev pub object_of : Workspace → ℕ → Object Body
  object_of w object = record {
    number = latest_number bodies w.history object;
    body = latest_body bodies w.history object;
    owner = owner_of w.owners object;
  }

  -- the objects of these definitions, the first of which has the number at
  abbrev pub standing_from : Workspace → ℕ → List Def → List (Option (Object Body))
  standing_from w at [] = []
  standing_from w at (def ∷ definitions) =
      (if is_kept def.kind then Some (object_of w at) else None) ∷ standing_from w (at + 1) definitions

  -- each object as it stands, in order of definition
  abbrev pub standing : Workspace → List (Option (Object Body))
  standing w = standing_from w 0 w.definitions

  abbrev pub table_of : Workspace → Table
  table_of w = record { definitions = w.definitions; objects = standing w }
