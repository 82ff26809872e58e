-- What the writing of the definitions does to a run.
use Rattle.std.specs.Prelude.{◌≡◌, ◌≤◌, ◌++◌, ◌⊎◌, ℕ, List, [], ◌∷◌, None, IsTrue, refl}
use Rattle.std.proofs.Common.{◌∙◌, ap, sym, subst}
use Rattle.std.proofs.lemmas.Bool.{true≢false}
use Rattle.std.proofs.lemmas.Option.{none-some}
use Rattle.aw_lists.specs.Faults.{Rose}
use Rattle.aw_schema.specs.declared.definition.Def.{Def}
use Rattle.aw_codec.specs.declared.record.Decoded.{Decoded}
use Rattle.aw_codec.specs.declared.record.Decoded.TheVariants.{Definitions, Commit}
use Rattle.aw_body.specs.KeptBodies.{bodies_of}
use Rattle.mv_core.specs.Workspace.{table_of, opened}
use Rattle.aw_journal.specs.Passed.{Passed}
use Rattle.aw_store.specs.StoredRecords.{HoldsRecords, LeftRecords, can_replay, definitions_of}
use Rattle.aw_store.specs.Stores.{StoreState, Writes, Doubts}
use Rattle.script_meaning.proofs.callers.StoreAttempts.{fares_done, fares_faulted}
use Rattle.script_play.specs.declared.world.StoreWorld.{StoreWorld}
use Rattle.script_play.specs.inside.LineSteps.{Opens, FailsToOpen}
use Rattle.script_play.proofs.LineSteps.{few-none, later-passed}

-- without definitions there are no records
pub none-written : (records : List Decoded) → IsTrue (can_replay records) → definitions_of records ≡ None → records ≡ []
none-written [] replays none = refl
none-written (Definitions definitions ∷ records) replays none = absurd (none-some definitions (sym none))
none-written (Commit changes ∷ records) replays none = absurd (true≢false (sym replays))

module _ {D : Type 0} (faults clock : D → ℕ) (crash : D → ℕ → List ℕ → Type 0) (old : StoreWorld (StoreState D)) (store : StoreState D)
    (moments : Passed (clock old.store.disk) (clock store.disk) (crash old.store.disk) (crash store.disk) (λ image. LeftRecords old.store.records old.store.doubt image ⊎ HoldsRecords image (old.store.records ++ Definitions old.drafted ∷ [])))
    (images : (image : List ℕ) → crash store.disk (clock store.disk) image → LeftRecords store.records store.doubt image)
    (later : faults old.store.disk ≤ faults store.disk) where
  pub opens_so : IsTrue (can_replay old.store.records) → (definitions_of old.store.records ≡ None) × Writes (Definitions old.drafted) old.store store × (store.table ≡ table_of (bodies_of old.drafted) (opened old.drafted)) → Opens faults clock crash old (record old { drafted = []; store = store })
  opens_so replays defines = record {
    unopened = defines.0;
    moves = record {
      more_ends = clock store.disk ∷ [];
      fares = λ opened_with made ends start fares. fares_done clock crash opened_with made ends start old.store store fares (Definitions old.drafted) (record { moments = moments; images = images }) defines.1;
      few = few-none (faults old.store.disk) (faults store.disk) later;
      later = later-passed faults clock crash old.store.disk store.disk _ moments later;
      keeps_open = λ definitions is. absurd (none-some definitions (sym defines.0 ∙ is));
    };
    defined = ap definitions_of (defines.1.records ∙ ap (λ those. those ++ Definitions old.drafted ∷ []) (none-written old.store.records replays defines.0));
    table = defines.2;
    rest = refl;
  }

  pub fails_so : (definitions_of old.store.records ≡ None) × Doubts (Definitions old.drafted) old.store store → Rose (faults old.store.disk) (faults store.disk) → FailsToOpen faults clock crash old (record old { drafted = []; store = store })
  fails_so doubts rose = record {
    unopened = doubts.0;
    moves = record {
      more_ends = clock store.disk ∷ [];
      fares = λ opened_with made ends start fares. fares_faulted clock crash opened_with made ends start old.store store fares (Definitions old.drafted) (record { moments = moments; images = images }) doubts.1;
      few = few-none (faults old.store.disk) (faults store.disk) later;
      later = later-passed faults clock crash old.store.disk store.disk _ moments later;
      keeps_open = λ definitions is. absurd (none-some definitions (sym doubts.0 ∙ is));
    };
    rose = rose;
  }

-- the same, of definitions that are those that were drafted, of which none are left
module _ {D : Type 0} (faults clock : D → ℕ) (crash : D → ℕ → List ℕ → Type 0) (old : StoreWorld (StoreState D)) (store : StoreState D) (written left : List Def) (same : written ≡ old.drafted) (none_left : left ≡ [])
    (moments : Passed (clock old.store.disk) (clock store.disk) (crash old.store.disk) (crash store.disk) (λ image. LeftRecords old.store.records old.store.doubt image ⊎ HoldsRecords image (old.store.records ++ Definitions written ∷ [])))
    (images : (image : List ℕ) → crash store.disk (clock store.disk) image → LeftRecords store.records store.doubt image)
    (later : faults old.store.disk ≤ faults store.disk) where
  same_moments : Passed (clock old.store.disk) (clock store.disk) (crash old.store.disk) (crash store.disk) (λ image. LeftRecords old.store.records old.store.doubt image ⊎ HoldsRecords image (old.store.records ++ Definitions old.drafted ∷ []))
  same_moments = subst (λ written. Passed (clock old.store.disk) (clock store.disk) (crash old.store.disk) (crash store.disk) (λ image. LeftRecords old.store.records old.store.doubt image ⊎ HoldsRecords image (old.store.records ++ Definitions written ∷ []))) same moments

  pub opens_by : IsTrue (can_replay old.store.records) → (definitions_of old.store.records ≡ None) × Writes (Definitions written) old.store store × (store.table ≡ table_of (bodies_of written) (opened written)) → Opens faults clock crash old (record old { drafted = left; store = store })
  opens_by replays defines = subst (λ (drafted : List Def). Opens faults clock crash old (record old { drafted = drafted; store = store })) (sym none_left)
      (opens_so faults clock crash old store same_moments images later replays (subst (λ (written : List Def). (definitions_of old.store.records ≡ None) × Writes (Definitions written) old.store store × (store.table ≡ table_of (bodies_of written) (opened written))) same defines))

  pub fails_by : (definitions_of old.store.records ≡ None) × Doubts (Definitions written) old.store store → Rose (faults old.store.disk) (faults store.disk) → FailsToOpen faults clock crash old (record old { drafted = left; store = store })
  fails_by doubts rose = subst (λ (drafted : List Def). FailsToOpen faults clock crash old (record old { drafted = drafted; store = store })) (sym none_left)
      (fails_so faults clock crash old store same_moments images later (subst (λ (written : List Def). (definitions_of old.store.records ≡ None) × Doubts (Definitions written) old.store store) same doubts) rose)
