-- What a program over a store has done, over the commits and the owners.
use Rattle.std.specs.Prelude.{◌≡◌, ◌≤◌, ℕ, Bool, false, List, [], Option, None, Some, refl}
use Rattle.std.specs.Option.{option_map}
use Rattle.std.proofs.Common.{◌∙◌, ap, ap₂, sym, arith}
use Rattle.aw_schema.specs.declared.definition.Def.{Def}
use Rattle.aw_codec.specs.declared.record.Decoded.{Decoded}
use Rattle.aw_store.specs.StoredRecords.{definitions_of, stood_by}
use Rattle.aw_store.specs.Stores.{StoreState}
use Rattle.script_world.specs.Worlds.{World, Event, with_shared, first_sessions}
use Rattle.script_world.specs.Outcomes as disk
use Rattle.script_world.specs.Outcomes.{Outcome, Attempt, all_attempts, attempts_of, used}
use Rattle.script_meaning.specs.Language.{language, ObjectsWorld}
use Rattle.script_meaning.specs.StoreRuns.{store_disk, store_opening, StoreRun, IsRun}
use Rattle.script_meaning.proofs.callers.ObjectsSimulation.{are_alike}

-- all attempts of a world over a store
pub made-all : {D : Type 0} (opened : Option Decoded) (tried : List (Attempt Decoded)) (shared : Option (StoreState D)) → (shared ≡ None → (opened ≡ None) × (tried ≡ [])) → attempts_of (option_map (store_disk opened tried) shared) ≡ all_attempts opened tried
made-all opened tried None none =
    ap₂ (λ (those : Option Decoded) (made : List (Attempt Decoded)). all_attempts those made) (sym (none refl).0) (sym (none refl).1)
made-all opened tried (Some store) none = refl

pub is_run : {D : Type 0} (names : List (List ℕ)) (records : List Decoded) (events : List Event) (coming : List Outcome) (opened : Option Decoded) (tried : List (Attempt Decoded)) (text : List ℕ) (refused : Bool) (w : World language (StoreState D)) → (w.shared ≡ None → (opened ≡ None) × (tried ≡ [])) → StoreRun names records events coming opened tried text refused w → IsRun names records events coming (all_attempts opened tried) text refused
is_run names records events coming opened tried text refused w none run =
    let alike = are_alike names records coming events in
    record {
      text_is = sym alike.text ∙ run.due;
      refused_is = sym alike.refused ∙ run.refuses;
      attempts_are = sym alike.attempts_made ∙ ap (λ (it : ObjectsWorld). attempts_of it.shared) run.world ∙ made-all opened tried w.shared none;
    }

-- nothing was played yet
pub run_opened : {D : Type 0} (names : List (List ℕ)) (records : List Decoded) (store : StoreState D) → store.table ≡ stood_by records [] → StoreRun names records [] [] None [] [] false (store_opening names (definitions_of records) store)
run_opened {D} names records store stands = record {
  world = same (definitions_of records);
  as_many = refl;
  learnt = few (definitions_of records);
  due = refl;
  refuses = refl;
}
  where
    same : (defined : Option (List Def)) → (let it : ObjectsWorld = disk.opening names defined (stood_by records []) in it) ≡ with_shared (store_disk None []) (store_opening names defined store)
    same None = refl
    same (Some those) =
        ap (λ state. let it : ObjectsWorld = record { definitions = those; open_lines = []; shared = Some (record { state = state; opened = None; tried = [] }); names = names; sessions = first_sessions language 0 names } in it) (sym stands)

    few : (defined : Option (List Def)) → used (with_shared (store_disk None []) (store_opening names defined store)).shared ≤ 0
    few None = omega arith
    few (Some those) = omega arith
