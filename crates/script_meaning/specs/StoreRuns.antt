-- What a program over a store has done, told over the commits and the owners.
use Rattle.std.specs.Prelude.{◌≡◌, ℕ, Bool, List, [], Option, unwrap_or}
use Rattle.std.specs.Option.{option_map}
use Rattle.aw_schema.specs.declared.definition.Def.{Def}
use Rattle.aw_codec.specs.declared.record.Decoded.{Decoded}
use Rattle.aw_store.specs.Stores.{StoreState}
use Rattle.script_world.specs.Worlds.{World, Event, first_sessions, text_of, any_refused}
use Rattle.script_world.specs.Outcomes.{Outcome, Attempt}
use Rattle.script_world.specs.LearntOutcomes.{HasRun}
use Rattle.script_meaning.specs.Language.{language, store_writing, objects_machine, ObjectsDisk, by_history}
use Rattle.script_meaning.specs.Transcript.{opening, opening_objects, attempts}

-- the state of the machine for which a store stands, in a run that wrote this record of definitions and made these attempts
abbrev pub store_disk : {D : Type 0} → Option Decoded → List (Attempt Decoded) → StoreState D → ObjectsDisk
store_disk opened tried store = record { state = store.table; opened = opened; tried = tried }

-- the world in which a store is opened: it is open where its records have definitions
abbrev pub store_opening : {D : Type 0} → List (List ℕ) → Option (List Def) → StoreState D → World language (StoreState D)
store_opening {D} names defined store = record {
  definitions = unwrap_or defined [];
  open_lines = [];
  shared = option_map (λ (those : List Def). store) defined;
  names = names;
  sessions = first_sessions language 0 names;
}

-- a run of a program over a store, which began with these records
abbrev pub StoreRun : {D : Type 0} → List (List ℕ) → List Decoded → List Event → List Outcome → Option Decoded → List (Attempt Decoded) → List ℕ → Bool → World language (StoreState D) → Type 0
StoreRun names records events coming opened tried text refused w =
    HasRun store_writing objects_machine store_disk (opening_objects names records) events coming opened tried text refused w

-- what was due is the transcript of the commits and the owners, and these are its attempts
pub record IsRun (names : List (List ℕ)) (records : List Decoded) (events : List Event) (coming : List Outcome) (made : List (Attempt Decoded)) (text : List ℕ) (refused : Bool) : Type 0 where
  pub text_is : text_of (by_history coming) (opening names records) events ≡ text
  pub refused_is : any_refused (by_history coming) (opening names records) events ≡ refused
  pub attempts_are : attempts names records coming events ≡ made
