-- The next payload, and what it makes of the records so far.
use Rattle.std.proofs.Common.{ℕ, ◌≡◌, ◌+◌, take, drop, get_or, ◌⊎◌, ◌<◌, ◌≤◌, ◌^◌, ◌&&◌, Bool, true, false, List, [], ◌∷◌, ◌++◌, length, map, Option, None, Some, unwrap_or, refl, ap, ap₂, sym, subst, ◌∙◌, arith, inl, inr, Result, Ok, Err, IfOk, if◌then◌else◌}
use Rattle.std.specs.Option.{is_none, is_some}
use Rattle.std.proofs.lemmas.List.Sums.{fold-append}
use Rattle.std.proofs.lemmas.List.{map-append, take_more, drop_more}
use Rattle.std.proofs.Math.Seq.{take-length, drop-length}
use Rattle.aw_schema.specs.declared.definition.Def.{Def}
use Rattle.aw_schema.specs.declared.fault.SchemaFault.{SchemaFault}
use Rattle.aw_schema.specs.declared.fault.SchemaFault.TheVariants.{NoMemory}
use Rattle.aw_schema.specs.Checking.{refusal, answer, IsAnswer}
use Rattle.aw_body.specs.declared.change.Change.{Change}
use Rattle.aw_body.specs.KeptBodies.{bodies_of}
use Rattle.aw_codec.specs.declared.record.Decoded.{Decoded}
use Rattle.aw_codec.specs.declared.record.Decoded.TheVariants.{Definitions, Commit}
use Rattle.aw_codec.specs.declared.record.BadRecord.TheVariants as bad
use Rattle.aw_codec.specs.Decoding.{IsOrNoMemory}
use Rattle.aw_codec.specs.Records.{spelled, IsRecord}
use Rattle.aw_journal.specs.declared.payload.Payload.{Payload}
use Rattle.mv_core.specs.Following.{followed_by}
use Rattle.mv_core.specs.Replies.{may_follow}
use Rattle.mv_core.specs.Workspace.{Table, opened, table_of}
use Rattle.aw_store.specs.StoredRecords.{are_replayed, are_accepted_after, can_replay, definitions_of, workspace_of, IsStored}
use Rattle.aw_store.specs.inside.ReplaySteps.{Leave, IsNoNext, bytes_of, last_bytes}
use Rattle.aw_store.proofs.callers.Following.{can_replay-defined, can_replay-first, may-follow, Leave-commit, Leave-defined, answered}
use Rattle.aw_store.proofs.callers.Spellings.{found}

-- ---- one definition more

-- a definition is accepted where the catalogue takes it
pub accepted-ok : (catalogue : List Def) (def : Def) (object : ℕ) → IsAnswer (Ok object) (answer catalogue def) → true ≡ is_none (refusal catalogue def)
accepted-ok catalogue def object is = step (refusal catalogue def) is
  where
    step : (fault : Option SchemaFault) → (Ok object ≡ Err NoMemory) ⊎ (Ok object ≡ elim fault [ Some one ↦ Err one | None ↦ Ok (length catalogue) ]) → true ≡ is_none fault
    step None is' = refl
    step (Some one) (inl is') = cc
    step (Some one) (inr is') = cc

-- and refused where it answers another fault than want of memory
pub refused-err : (catalogue : List Def) (def : Def) (fault : SchemaFault) → (fault ≡ NoMemory → ⊥) → IsAnswer (Err fault) (answer catalogue def) → false ≡ is_none (refusal catalogue def)
refused-err catalogue def fault other is = step (refusal catalogue def) is
  where
    step : (there : Option SchemaFault) → IsAnswer (Err fault) (elim there [ Some one ↦ Err one | None ↦ Ok (length catalogue) ]) → false ≡ is_none there
    step (Some one) is' = refl
    step None (inl is') = absurd (other cc)
    step None (inr is') = cc

pub accepted-more : (before rest : List Def) (def : Def) (all : Bool) → are_accepted_after before (def ∷ rest) ≡ all → true ≡ is_none (refusal before def) → are_accepted_after (before ++ def ∷ []) rest ≡ all
accepted-more before rest def all same is = ap (λ b. b && are_accepted_after (before ++ def ∷ []) rest) is ∙ same

pub accepted-not : (before rest : List Def) (def : Def) (all : Bool) → are_accepted_after before (def ∷ rest) ≡ all → false ≡ is_none (refusal before def) → all ≡ false
accepted-not before rest def all same is = sym same ∙ sym (ap (λ b. b && are_accepted_after (before ++ def ∷ []) rest) is)

-- the first so many definitions are in the catalogue, and the others are to be accepted after them
pub record AcceptsFirst (definitions catalogue : List Def) (at : ℕ) : Type 0 where
  pub catalogue_is : catalogue ≡ take at definitions
  pub same : are_accepted_after catalogue (drop at definitions) ≡ are_accepted_after [] definitions

-- the definition at this place
here : (definitions : List Def) (at : ℕ) (def : Def) → at < length definitions → def ≡ get_or definitions at def → drop at definitions ≡ def ∷ drop (at + 1) definitions
here definitions at def within is = drop_more definitions at def within ∙ ap (λ (one : Def). one ∷ drop (at + 1) definitions) (sym is)

pub first-none : (definitions : List Def) → AcceptsFirst definitions [] 0
first-none definitions = record { catalogue_is = refl; same = refl }

module _ (definitions catalogue : List Def) (at : ℕ) (def : Def) (first : AcceptsFirst definitions catalogue at) (within : at < length definitions) (is : def ≡ get_or definitions at def) where
  pub first-more : (next : ℕ) → next ≡ at + 1 → true ≡ is_none (refusal catalogue def) → AcceptsFirst definitions (catalogue ++ def ∷ []) next
  first-more next counted accepted =
      let more : AcceptsFirst definitions (catalogue ++ def ∷ []) (at + 1) = record {
        catalogue_is =
            ap (λ (front : List Def). front ++ def ∷ []) first.catalogue_is ∙ ap (λ (one : Def). take at definitions ++ one ∷ []) is ∙ sym (take_more definitions at def within);
        same = accepted-more catalogue (drop (at + 1) definitions) def (are_accepted_after [] definitions) (ap (are_accepted_after catalogue) (sym (here definitions at def within is)) ∙ first.same) accepted;
      } in
      subst (AcceptsFirst definitions (catalogue ++ def ∷ [])) (sym counted) more

  pub first-not : false ≡ is_none (refusal catalogue def) → are_accepted_after [] definitions ≡ false
  first-not refused =
      accepted-not catalogue (drop (at + 1) definitions) def (are_accepted_after [] definitions) (ap (are_accepted_after catalogue) (sym (here definitions at def within is)) ∙ first.same) refused

pub first-all : (definitions catalogue : List Def) (at : ℕ) → AcceptsFirst definitions catalogue at → at ≡ length definitions → (are_accepted_after [] definitions ≡ true) × (catalogue ≡ definitions)
first-all definitions catalogue at first counted =
    let all : take at definitions ≡ definitions = ap (λ (n : ℕ). take n definitions) counted ∙ take-length definitions in
    let none : drop at definitions ≡ [] = ap (λ (n : ℕ). drop n definitions) counted ∙ drop-length definitions in
    (sym first.same ∙ ap (are_accepted_after catalogue) none, first.catalogue_is ∙ all)

-- ---- the definitions

module _ (records : List Decoded) (catalogue : Option (List Def)) (table : Table) (leave : Leave records catalogue table) where
  -- definitions are there already
  pub there-already : (definitions : List Def) → is_some catalogue ≡ true → false ≡ can_replay (records ++ Definitions definitions ∷ [])
  there-already definitions is = step catalogue leave.definitions_are is
    where
      step : (there : Option (List Def)) → there ≡ definitions_of records → is_some there ≡ true → false ≡ can_replay (records ++ Definitions definitions ∷ [])
      step None are is' = cc
      step (Some others) are is' = sym (can_replay-defined records others definitions (sym are))

  none-there : is_some catalogue ≡ false → catalogue ≡ None
  none-there is = step catalogue is
    where
      step : (there : Option (List Def)) → is_some there ≡ false → there ≡ None
      step None is' = refl
      step (Some others) is' = cc

  pub first-follows : (definitions : List Def) → is_some catalogue ≡ false → can_replay (records ++ Definitions definitions ∷ []) ≡ (are_replayed definitions && are_accepted_after [] definitions)
  first-follows definitions is = can_replay-first records definitions leave.replayable (sym leave.definitions_are ∙ none-there is)

  -- they are of kinds that can't be replayed
  pub unreplayed : (definitions : List Def) → is_some catalogue ≡ false → are_replayed definitions ≡ false → false ≡ can_replay (records ++ Definitions definitions ∷ [])
  unreplayed definitions is kinds = sym (first-follows definitions is ∙ ap (λ b. b && are_accepted_after [] definitions) kinds)

  -- they are accepted, or not
  pub replayed-as : (definitions : List Def) (accepted : Bool) → is_some catalogue ≡ false → are_replayed definitions ≡ true → are_accepted_after [] definitions ≡ accepted → accepted ≡ can_replay (records ++ Definitions definitions ∷ [])
  replayed-as definitions accepted is kinds are =
      sym (first-follows definitions is ∙ ap₂ (λ (a b : Bool). a && b) kinds are)

  pub defined : (definitions made : List Def) (after : Table) → is_some catalogue ≡ false → are_replayed definitions ≡ true → (are_accepted_after [] definitions ≡ true) × (made ≡ definitions)
      → after ≡ table_of (bodies_of made) (opened made) → Leave (records ++ Definitions definitions ∷ []) (Some made) after
  defined definitions made after is kinds are objects =
      let can = sym (replayed-as definitions true is kinds are.0) in
      subst (λ (one : List Def). Leave (records ++ Definitions definitions ∷ []) (Some one) after) (sym are.1)
      (Leave-defined records catalogue table leave definitions after (none-there is) can (objects ∙ ap (λ (one : List Def). table_of (bodies_of one) (opened one)) are.1))

  -- ---- a commit

  pub follows-commit : {E : Type 0} (result : Result Bool E) (changes : List Change) → length records < 2 ^ 62 → IsRecord (Commit changes) → IfOk result (λ may. may ≡ may_follow table.definitions table.objects changes)
      → IfOk result (λ follows. follows ≡ can_replay (records ++ Commit changes ∷ []))
  follows-commit result changes few fits may =
      subst (λ (b : Bool). IfOk result (λ follows. follows ≡ b)) (may-follow records catalogue table leave changes few fits.0 fits.2) may

  pub left-commit : {E : Type 0} (result : Result Bool E) (changes : List Change) (after : Table) → length records < 2 ^ 62 → IsRecord (Commit changes) → IfOk result (λ may. may ≡ may_follow table.definitions table.objects changes)
      → IfOk result (λ may. after ≡ table_of (bodies_of (unwrap_or (definitions_of records) [])) (if may then followed_by (workspace_of records []) changes else workspace_of records [])) → result ≡ Ok true
      → Leave (records ++ Commit changes ∷ []) catalogue after
  left-commit {E} result changes after few fits may step done =
      let can = answered result (can_replay (records ++ Commit changes ∷ [])) true (follows-commit result changes few fits may) done in
      Leave-commit records catalogue table leave changes after can (subst (λ (one : Result Bool E). IfOk one (λ may. after ≡ table_of (bodies_of (unwrap_or (definitions_of records) [])) (if may then followed_by (workspace_of records []) changes else workspace_of records []))) done step)

-- ---- a payload

pub stored : (r : Decoded) (bytes : List ℕ) → IsRecord r → bytes ≡ spelled r → length bytes ≤ 67108864 → IsStored r
stored r bytes fits same short = record { spelling = fits; short = omega (arith, short, ap length same) }

-- it is too long
pub too_long : (records : List Decoded) (bytes : List ℕ) → 67108864 < length bytes → IsNoNext records bytes
too_long records bytes long = λ r fits same. absurd (omega (arith, long, fits.short, ap length same))

-- it is no record
pub no_record : (records : List Decoded) (bytes : List ℕ) (k : ℕ) → ((r : Decoded) → IsRecord r → bytes ≡ spelled r → IsOrNoMemory (Err (bad.At k)) (Ok r)) → IsNoNext records bytes
no_record records bytes k never = λ r fits same. absurd (both r (never r fits.spelling same))
  where
    both : (r : Decoded) → IsOrNoMemory (Err (bad.At k)) (Ok r) → ⊥
    both r (inl is) = cc
    both r (inr is) = cc

-- it is a record that can't follow
pub cannot_follow : (records : List Decoded) (bytes : List ℕ) (next : Decoded) → IsRecord next → bytes ≡ spelled next → can_replay (records ++ next ∷ []) ≡ false → IsNoNext records bytes
cannot_follow records bytes next fits same cannot = λ r stored' same'.
    let is : r ≡ next = sym (found r bytes stored'.spelling same') ∙ found next bytes fits same in
    ap (λ one. can_replay (records ++ one ∷ [])) is ∙ cannot

-- ---- the last payload

pub last-some : (all front : List Payload) (last : Payload) → all ≡ front ++ last ∷ [] → last_bytes (map bytes_of all) ≡ last.bytes
last-some all front last is =
    ap (λ them. last_bytes (map bytes_of them)) is ∙ ap last_bytes (map-append bytes_of front (last ∷ [])) ∙ fold-append (λ (before bytes : List ℕ). bytes) [] (map bytes_of front) (last.bytes ∷ [])

pub last-none : (all front : List Payload) → all ≡ front ++ [] → length all ≡ 0 → last_bytes (map bytes_of all) ≡ []
last-none [] front is none = refl
last-none (payload ∷ all) front is none = absurd (omega (arith, none))
