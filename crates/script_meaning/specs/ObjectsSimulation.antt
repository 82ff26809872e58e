-- The objects as they stand, which the code keeps, answer a script as the commits and the owners do.
use Rattle.std.specs.Prelude.{◌≡◌, ℕ, List}
use Rattle.aw_body.specs.KeptBodies.{bodies_of}
use Rattle.mv_core.specs.Workspace.{Workspace, Table, table_of}
use Rattle.aw_codec.specs.declared.record.Decoded.{Decoded}
use Rattle.script_world.specs.Worlds.{Event, with_shared, text_of, any_refused, world_after}
use Rattle.script_world.specs.Outcomes.{Outcome, attempts_of}
use Rattle.script_meaning.specs.Language.{HistoryDisk, ObjectsDisk, ObjectsWorld, by_history, by_objects}
use Rattle.script_meaning.specs.Transcript.{opening, opening_objects, world_at, attempts}

-- the objects of a workspace, each from its first body on
abbrev pub standing : Workspace → Table
standing w = table_of (bodies_of w.definitions) w

abbrev pub standing_disk : HistoryDisk → ObjectsDisk
standing_disk disk = record { state = standing disk.state; opened = disk.opened; tried = disk.tried }

-- the world over the objects as they stand, after these events
abbrev pub objects_at : List (List ℕ) → List Decoded → List Outcome → List Event → ObjectsWorld
objects_at names records coming events = world_after (by_objects coming) (opening_objects names records) events

-- both write the same text, refuse some event or none, and make the same attempts; and each object stands as the commits have it
pub record AreAlike (names : List (List ℕ)) (records : List Decoded) (coming : List Outcome) (events : List Event) : Type 0 where
  pub text : text_of (by_objects coming) (opening_objects names records) events ≡ text_of (by_history coming) (opening names records) events
  pub refused : any_refused (by_objects coming) (opening_objects names records) events ≡ any_refused (by_history coming) (opening names records) events
  pub world : objects_at names records coming events ≡ with_shared standing_disk (world_at names records coming events)
  pub attempts_made : attempts_of (objects_at names records coming events).shared ≡ attempts names records coming events
