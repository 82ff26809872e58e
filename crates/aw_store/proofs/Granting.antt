-- A commit that is granted can be spelled and replayed.
use Rattle.std.proofs.Common.{ℕ, ◌≡◌, ◌+◌, ◌<◌, ◌≤◌, ◌&&◌, Bool, true, false, List, [], ◌∷◌, length, Option, None, Some, slice_get, unwrap_or, refl, arith, nat_le, if◌then◌else◌}
use Rattle.std.specs.List.{list_all}
use Rattle.std.specs.Option.{option_map, option_or, option_flatten}
use Rattle.std.proofs.lemmas.Bool.{and_parts, and_from, leb-true}
use Rattle.std.proofs.lemmas.Option.{slice_get_within}
use Rattle.aw_schema.specs.declared.definition.Def.{Def}
use Rattle.aw_body.specs.declared.body.Body.{Body}
use Rattle.aw_body.specs.declared.change.Change.{Change}
use Rattle.aw_body.specs.KeptBodies.{fits_definition}
use Rattle.aw_codec.specs.Records.{rise_from, is_recordable, AreCommittable}
use Rattle.mv_core.specs.declared.entry.Reply.{Reply}
use Rattle.mv_core.specs.declared.entry.Reply.TheVariants as replies
use Rattle.mv_core.specs.declared.object.Object.{Object}
use Rattle.mv_core.specs.Lookups.{kept_at, is_own}
use Rattle.mv_core.specs.Replies.{fits_object, may_make, first_refused, first_not_own, first_worn, commit_block}
use Rattle.aw_codec.proofs.CallerLemmas.{recordable_fits}

-- ---- nothing blocks a commit that is granted

none-blocks : (block : Option Reply) → unwrap_or block replies.Committed ≡ replies.Committed → ((reply : Reply) → block ≡ Some reply → reply ≡ replies.Committed → ⊥) → block ≡ None
none-blocks None is never = refl
none-blocks (Some reply) is never = absurd (never reply refl is)

none-first : (one other worn : Option ℕ) → unwrap_or (elim (option_or one other) [ Some object ↦ Some (replies.Stranger object) | None ↦ option_map replies.Worn worn ]) replies.Committed ≡ replies.Committed → one ≡ None
none-first None other worn is = refl
none-first (Some object) other worn is = cc

pub none-refused : (definitions : List Def) (objects : List (Option (Object Body))) (who : ℕ) (changes : List Change) (leave : List ℕ)
    → unwrap_or (commit_block definitions objects who changes leave) replies.Committed ≡ replies.Committed → first_refused (may_make definitions objects (Some who)) 0 changes ≡ None
none-refused definitions objects who changes leave is =
    none-first (first_refused (may_make definitions objects (Some who)) 0 changes) (first_not_own objects who leave) (first_worn objects changes) is

-- ---- what its changes are

-- a kept object is one of them
within-kept : (objects : List (Option (Object Body))) (k : ℕ) (it : Object Body) → kept_at objects k ≡ Some it → k < length objects
within-kept objects k it is = step (slice_get objects k) refl is
  where
    step : (found : Option (Option (Object Body))) → slice_get objects k ≡ found → option_flatten found ≡ Some it → k < length objects
    step None at is' = cc
    step (Some one) at is' = slice_get_within objects k one at

fits-within : (definitions : List Def) (objects : List (Option (Object Body))) (c : Change) → fits_object definitions (kept_at objects c.object) c ≡ true → c.object < length objects
fits-within definitions objects c fit = step (kept_at objects c.object) refl fit
  where
    step : (found : Option (Object Body)) → kept_at objects c.object ≡ found → fits_object definitions found c ≡ true → c.object < length objects
    step None at fit' = cc
    step (Some it) at fit' = within-kept objects c.object it at

recordable-defined : (found : Option Def) (latest : Body) (c : Change) → fits_definition found latest c ≡ true → is_recordable c.patch ≡ true
recordable-defined None latest c fit = cc
recordable-defined (Some def) latest c fit = recordable_fits c.patch def.kind latest fit

recordable-object : (definitions : List Def) (found : Option (Object Body)) (c : Change) → fits_object definitions found c ≡ true → is_recordable c.patch ≡ true
recordable-object definitions None c fit = cc
recordable-object definitions (Some it) c fit = recordable-defined (slice_get definitions c.object) it.body c fit

-- changes by rising object from `least` on, each of which fits and can be recorded, of one of so many objects
pub record AreWritable (definitions : List Def) (objects : List (Option (Object Body))) (least : ℕ) (changes : List Change) : Type 0 where
  pub rising : rise_from least changes ≡ true
  pub fit : list_all (λ (c : Change). fits_object definitions (kept_at objects c.object) c) changes ≡ true
  pub recordable : list_all (λ (c : Change). is_recordable c.patch) changes ≡ true
  pub few : least ≤ length objects → length changes + least ≤ length objects

not-refused : (b : Bool) (rest : Option ℕ) (object : ℕ) → (if b then rest else Some object) ≡ None → (b ≡ true) × (rest ≡ None)
not-refused true rest object is = (refl, is)
not-refused false rest object is = cc

pub writable : (definitions : List Def) (objects : List (Option (Object Body))) (who least : ℕ) (changes : List Change) → first_refused (may_make definitions objects (Some who)) least changes ≡ None → AreWritable definitions objects least changes
writable definitions objects who least [] none = record { rising = refl; fit = refl; recordable = refl; few = λ below. omega (arith, below) }
writable definitions objects who least (c ∷ cs) none =
    let object = c.object in
    let may = may_make definitions objects (Some who) in
    let fitting = fits_object definitions (kept_at objects object) c in
    let first = not-refused (nat_le least object && may c) (first_refused may (object + 1) cs) object none in
    let rises = and_parts (nat_le least object) (may c) first.0 in
    let fit = (and_parts (is_own who (kept_at objects object)) fitting rises.1).1 in
    let rest = writable definitions objects who (object + 1) cs first.1 in
    let inside = fits-within definitions objects c fit in
    let above : least ≤ object = leb-true least object rises.0 in
    let fewer : length cs + (object + 1) ≤ length objects = rest.few (omega (arith, inside)) in
    record {
      rising = and_from (nat_le least object) (rise_from (object + 1) cs) rises.0 rest.rising;
      fit = and_from fitting (list_all (λ (c : Change). fits_object definitions (kept_at objects c.object) c) cs) fit rest.fit;
      recordable = and_from (is_recordable c.patch) (list_all (λ (c : Change). is_recordable c.patch) cs) (recordable-object definitions (kept_at objects object) c fit) rest.recordable;
      few = λ below. omega (arith, fewer, above);
    }

-- so they can be spelled
pub committable : (definitions : List Def) (objects : List (Option (Object Body))) (changes : List Change) → AreWritable definitions objects 0 changes → 1 ≤ length changes → length objects ≤ 4096 → AreCommittable changes
committable definitions objects changes are some most = record {
  some = some;
  few = omega (arith, are.few (omega arith), most);
  rising = are.rising;
  recordable = are.recordable;
}
