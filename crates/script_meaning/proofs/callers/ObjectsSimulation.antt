-- The machine over the objects as they stand answers as that over the commits and the owners.
use Rattle.std.specs.Prelude.{◌≡◌, ℕ, Bool, true, false, List, [], min, Option, None, Some, if◌then◌else◌, refl}
use Rattle.std.specs.Option.{option_map}
use Rattle.std.proofs.Common.{◌∙◌, ap, sym}
use Rattle.aw_schema.specs.declared.definition.Def.{Def}
use Rattle.aw_body.specs.KeptBodies.{bodies_of, first_of}
use Rattle.aw_codec.specs.declared.record.Decoded.{Decoded}
use Rattle.mv_core.specs.declared.entry.Entry.{Entry}
use Rattle.mv_core.specs.declared.entry.Reply.{Reply}
use Rattle.mv_core.specs.declared.entry.Reply.TheVariants.{TooLarge}
use Rattle.mv_core.specs.SharedStep.{shared_step, workspace_after, table_after}
use Rattle.mv_core.specs.Workspace.{Workspace, Table, table_of}
use Rattle.mv_core.proofs.CallerLemmas.{table-workspace_after, definitions-after}
use Rattle.aw_store.specs.Stores.{record_of}
use Rattle.aw_store.specs.StoredRecords.{definitions_of, workspace_of, stood_by}
use Rattle.script_world.specs.Worlds.{Event, Answered, with_shared, answered, text_of, any_refused, world_after}
use Rattle.script_world.specs.Outcomes as disk
use Rattle.script_world.specs.Outcomes.{Outcome, among, attempts_of}
use Rattle.script_world.proofs.callers.Simulation.{MachinesAlike, answered-mapped, disks_alike, events_alike}
use Rattle.script_meaning.specs.ObjectsSimulation.{standing, standing_disk, objects_at, AreAlike}
use Rattle.script_meaning.specs.Language.{language, store_writing, history_machine, objects_machine, is_cut_off, bytes_of, HistoryDisk, ObjectsDisk, HistoryWorld, ObjectsWorld, by_history, by_objects}
use Rattle.script_meaning.specs.Transcript.{opening, opening_objects, world_at}

module _ (w : Workspace) (asked : Entry) where
  abbrev reply : Reply
  reply = (shared_step (bodies_of w.definitions) w asked).0

  abbrev after : Workspace
  after = workspace_after w asked reply

  standing-after : table_after (standing w) asked reply ≡ standing after
  standing-after =
      sym (table-workspace_after w.definitions (λ object. 1) (first_of w.definitions) w asked reply) ∙ ap (λ (definitions : List Def). table_of (bodies_of definitions) after) (sym (definitions-after w asked reply))

  abbrev by_history_so : Bool → Reply → Reply × Workspace
  by_history_so cut cut_reply = if cut then (cut_reply, w) else (reply, after)

  abbrev by_objects_so : Bool → Reply → Reply × Table
  by_objects_so cut cut_reply = if cut then (cut_reply, standing w) else (reply, table_after (standing w) asked reply)

  stepped : (cut : Bool) (cut_reply : Reply) →
      let it : Reply × Table = ((by_history_so cut cut_reply).0, standing (by_history_so cut cut_reply).1) in
      by_objects_so cut cut_reply ≡ it
  stepped true cut_reply = refl
  stepped false cut_reply = ap (λ (table : Table). let it : Reply × Table = (reply, table) in it) standing-after

machines_alike : MachinesAlike objects_machine history_machine standing
machines_alike = record {
  opens = λ definitions. refl;
  step = λ w asked. stepped w asked (is_cut_off asked (reply w asked)) (TooLarge (min (bytes_of (record_of asked)) 18446744073709551615));
}

opening-standing : (names : List (List ℕ)) (records : List Decoded) → opening_objects names records ≡ with_shared standing_disk (opening names records)
opening-standing names records = by_definitions (definitions_of records)
  where
    by_definitions : (defined : Option (List Def)) →
        let over : HistoryWorld = disk.opening names defined (workspace_of records []) in
        let it : ObjectsWorld = disk.opening names defined (stood_by records []) in
        it ≡ with_shared standing_disk over
    by_definitions None = refl
    by_definitions (Some defined) = refl

attempts-standing : (shared : Option HistoryDisk) → attempts_of (option_map standing_disk shared) ≡ attempts_of shared
attempts-standing None = refl
attempts-standing (Some disk) = refl

pub are_alike : (names : List (List ℕ)) (records : List Decoded) (coming : List Outcome) (events : List Event) → AreAlike names records coming events
are_alike names records coming events =
    let same = opening-standing names records in
    let alike = events_alike (by_objects coming) (by_history coming) standing_disk (disks_alike standing store_writing (among coming) objects_machine history_machine machines_alike) (opening names records) events in
    let world = ap (λ start. world_after (by_objects coming) start events) same ∙ alike.world in
    record {
      text = ap (λ start. text_of (by_objects coming) start events) same ∙ alike.text;
      refused = ap (λ start. any_refused (by_objects coming) start events) same ∙ alike.refused;
      world = world;
      attempts_made = ap (λ it. attempts_of it.shared) world ∙ attempts-standing (world_at names records coming events).shared;
    }

-- the same of one event more
pub answered_alike : (names : List (List ℕ)) (records : List Decoded) (coming : List Outcome) (events : List Event) (event : Event) → (answered (by_objects coming) (objects_at names records coming events) event).text ≡ (answered (by_history coming) (world_at names records coming events) event).text
answered_alike names records coming events event =
    ap (λ (w : ObjectsWorld). (answered (by_objects coming) w event).text) (are_alike names records coming events).world
    ∙ ap (λ (a : Answered language ObjectsDisk). a.text) (answered-mapped (by_objects coming) (by_history coming) standing_disk (disks_alike standing store_writing (among coming) objects_machine history_machine machines_alike) (world_at names records coming events) event)
