-- The generations of the objects of a workspace, each from its first body on.
use Rattle.std.specs.Prelude.{ℕ, List}
use Rattle.aw_body.specs.declared.body.Body.{Body}
use Rattle.aw_body.specs.Generations as kept
use Rattle.aw_body.specs.KeptBodies.{bodies_of}
use Rattle.mv_core.specs.Workspace.{Workspace}

-- all of an object, the oldest first
abbrev pub generations : Workspace → ℕ → List Body
generations w object = kept.generations (bodies_of w.definitions) w.history object

-- the latest one
abbrev pub latest_number : Workspace → ℕ → ℕ
latest_number w object = kept.latest_number (bodies_of w.definitions) w.history object

abbrev pub latest_body : Workspace → ℕ → Body
latest_body w object = kept.latest_body (bodies_of w.definitions) w.history object
