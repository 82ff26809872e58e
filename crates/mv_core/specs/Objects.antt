-- What holds of the objects as they stand, between two calls.
use Rattle.std.specs.Prelude.{◌≡◌, ◌≤◌, false, List, [], ◌∷◌, length, Option, Some, None}
use Rattle.aw_schema.specs.declared.definition.Def.{Def}
use Rattle.aw_schema.specs.declared.definition.DefKind.{DefKind}
use Rattle.aw_schema.specs.Definitions.{is_kept}
use Rattle.aw_body.specs.declared.body.Body.{Body}
use Rattle.aw_body.specs.Bodies.{IsBodyOf}
use Rattle.mv_core.specs.declared.object.Object.{Object}

-- an object stands where its definition is of a kind that is kept, and its body has the form of the definition
abbrev pub IsObjectOf : DefKind → Option (Object Body) → Type 0
IsObjectOf kind None = is_kept kind ≡ false
IsObjectOf kind (Some it) = IsBodyOf kind it.body

-- there is one for each definition
abbrev pub AreObjectsOf : List Def → List (Option (Object Body)) → Type 0
AreObjectsOf [] [] = Unit {0}
AreObjectsOf (def ∷ definitions) (found ∷ objects) = IsObjectOf def.kind found × AreObjectsOf definitions objects
AreObjectsOf _ _ = ⊥

pub record IsTable (definitions : List Def) (objects : List (Option (Object Body))) : Type 0 where
  pub most : length definitions ≤ 4096
  pub all : AreObjectsOf definitions objects
