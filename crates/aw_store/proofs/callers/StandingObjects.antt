-- The objects of a workspace, looked up by their numbers, and the changes that fit them.
use Rattle.std.proofs.Common.{ℕ, zero, suc, ◌≡◌, ◌+◌, ◌<◌, ◌≤◌, ◌&&◌, Bool, true, false, cond, List, [], ◌∷◌, length, find, Option, None, Some, slice_get, refl, ap, ap₂, sym, ◌∙◌, arith, nat_le, if◌then◌else◌, length-append}
use Rattle.std.specs.List.{list_all}
use Rattle.std.specs.Option.{is_none, option_map, option_flatten, option_to_list}
use Rattle.std.proofs.lemmas.Bool.{and_parts, lt-leb}
use Rattle.aw_schema.specs.declared.definition.Def.{Def}
use Rattle.aw_schema.specs.declared.definition.DefKind.{DefKind}
use Rattle.aw_schema.specs.declared.definition.DefKind.TheVariants.{Dimension, Relation, Valueset, Variable, Formula, Program, Aggmap}
use Rattle.aw_schema.specs.Definitions.{is_kept}
use Rattle.aw_body.specs.declared.body.Body.{Body}
use Rattle.aw_body.specs.declared.change.Change.{Change}
use Rattle.aw_body.specs.declared.patch.BodyPatch.{BodyPatch}
use Rattle.aw_body.specs.declared.patch.BodyPatch.TheVariants.{Values, Slots, Cells}
use Rattle.aw_body.specs.Fitting.{fits}
use Rattle.aw_body.specs.Generations.{Bodies, change_of, changes_of, latest_body}
use Rattle.aw_body.specs.KeptBodies.{fits_definition, bodies_of}
use Rattle.aw_codec.specs.Records.{rise_from}
use Rattle.mv_core.specs.declared.object.Object.{Object}
use Rattle.mv_core.specs.Lookups.{kept_at}
use Rattle.mv_core.specs.Replies.{fits_object, may_make, first_refused, is_worn, first_worn}
use Rattle.mv_core.specs.Workspace.{Workspace, object_of, standing_from, standing}
use Rattle.aw_store.specs.StoredRecords.{fits_latest}

-- ---- looking up

abbrev pub stands_as : Option Def → Object Body → Option (Object Body)
stands_as None it = None
stands_as (Some def) it = if is_kept def.kind then Some it else None

module _ (bodies : Bodies Body Change) (w : Workspace) where
  found-standing : (at k n : ℕ) (definitions : List Def) → at + k ≡ n → option_flatten (slice_get (standing_from bodies w at definitions) k) ≡ stands_as (slice_get definitions k) (object_of bodies w n)
  found-standing at k n [] is = refl
  found-standing at zero n (def ∷ definitions) is =
      ap (λ (m : ℕ). if is_kept def.kind then Some (object_of bodies w m) else None) (omega (arith, is))
  found-standing at (suc k) n (def ∷ definitions) is = found-standing (at + 1) k n definitions (omega (arith, is))

  -- an object that is kept stands as the commits and the owners have it
  pub kept_at-standing : (k : ℕ) → kept_at (standing bodies w) k ≡ stands_as (slice_get w.definitions k) (object_of bodies w k)
  kept_at-standing k = found-standing 0 k k w.definitions (omega arith)

  length-standing_from : (at : ℕ) (definitions : List Def) → length (standing_from bodies w at definitions) ≡ length definitions
  length-standing_from at [] = refl
  length-standing_from at (def ∷ definitions) = ap suc (length-standing_from (at + 1) definitions)

  pub length-standing : length (standing bodies w) ≡ length w.definitions
  length-standing = length-standing_from 0 w.definitions

-- ---- changes that fit

-- no patch fits an object that isn't kept
fits-unkept : (patch : BodyPatch) (kind : DefKind) (body : Body) → is_kept kind ≡ false → fits patch kind body ≡ false
fits-unkept patch Dimension body unkept = cc
fits-unkept patch (Relation target base) body unkept = cc
fits-unkept patch (Valueset dimension) body unkept = cc
fits-unkept patch (Variable kind dimensions) body unkept = cc
fits-unkept (Values values) (Formula text) body unkept = refl
fits-unkept (Slots slots) (Formula text) body unkept = refl
fits-unkept (Cells changes) (Formula text) body unkept = refl
fits-unkept (Values values) (Program text) body unkept = refl
fits-unkept (Slots slots) (Program text) body unkept = refl
fits-unkept (Cells changes) (Program text) body unkept = refl
fits-unkept (Values values) (Aggmap text) body unkept = refl
fits-unkept (Slots slots) (Aggmap text) body unkept = refl
fits-unkept (Cells changes) (Aggmap text) body unkept = refl

-- what stands of a definition fits as the definition and its latest body do
fits-found : (definitions : List Def) (found : Option Def) (it : Object Body) (c : Change) → slice_get definitions c.object ≡ found → fits_object definitions (stands_as found it) c ≡ fits_definition found it.body c
fits-found definitions None it c is = refl
fits-found definitions (Some def) it c is = step (is_kept def.kind) refl
  where
    step : (kept : Bool) → is_kept def.kind ≡ kept → fits_object definitions (if kept then Some it else None) c ≡ fits c.patch def.kind it.body
    step true is' = ap (λ one. fits_definition one it.body c) is
    step false is' = sym (fits-unkept c.patch def.kind it.body is')

module _ (definitions : List Def) (history : List (List Change)) (w : Workspace) (defined : w.definitions ≡ definitions) (committed : w.history ≡ history) where
  pub fits-standing : (c : Change) → fits_object definitions (kept_at (standing (bodies_of definitions) w) c.object) c ≡ fits_latest definitions history c
  fits-standing c =
      ap (λ found. fits_object definitions found c) (kept_at-standing (bodies_of definitions) w c.object)
      ∙ fits-found definitions (slice_get w.definitions c.object) (object_of (bodies_of definitions) w c.object) c (ap (λ defs. slice_get defs c.object) (sym defined))
      ∙ ap₂ (λ (defs : List Def) (commits : List (List Change)). fits_definition (slice_get defs c.object) (latest_body (bodies_of definitions) commits c.object) c) defined committed

-- ---- changes in order

-- where changes rise, the first that is refused is the first that may not be made
refused-rising : (may : Change → Bool) (least : ℕ) (changes : List Change) → rise_from least changes ≡ true → is_none (first_refused may least changes) ≡ list_all may changes
refused-rising may least [] rising = refl
refused-rising may least (c ∷ cs) rising =
    let parts = and_parts (nat_le least c.object) (rise_from (c.object + 1) cs) rising in
    step (nat_le least c.object) (may c) parts.0 (refused-rising may (c.object + 1) cs parts.1)
  where
    step : (above fit : Bool) → above ≡ true → is_none (first_refused may (c.object + 1) cs) ≡ list_all may cs → is_none (if above && fit then first_refused may (c.object + 1) cs else Some c.object) ≡ (fit && list_all may cs)
    step true true is same = same
    step true false is same = refl
    step false fit is same = cc

-- the same with two tests that are equal
all-same : (p q : Change → Bool) → ((c : Change) → p c ≡ q c) → (changes : List Change) → list_all p changes ≡ list_all q changes
all-same p q same [] = refl
all-same p q same (c ∷ cs) = ap₂ (λ (a b : Bool). a && b) (same c) (all-same p q same cs)

pub refused-fits : (definitions : List Def) (history : List (List Change)) (w : Workspace) → w.definitions ≡ definitions → w.history ≡ history → (changes : List Change) → rise_from 0 changes ≡ true
    → is_none (first_refused (may_make definitions (standing (bodies_of definitions) w) None) 0 changes) ≡ list_all (fits_latest definitions history) changes
refused-fits definitions history w defined committed changes rising =
    let may = may_make definitions (standing (bodies_of definitions) w) None in
    refused-rising may 0 changes rising ∙ all-same may (fits_latest definitions history) (fits-standing definitions history w defined committed) changes

-- ---- each number can rise

length-changes_of : (bodies : Bodies Body Change) (at : ℕ) (history : List (List Change)) → length (changes_of bodies at history) ≤ length history
length-changes_of bodies at [] = omega arith
length-changes_of bodies at (commit ∷ history) =
    let one = at_most_one (change_of bodies at commit) in
    omega (arith, length-append (option_to_list (change_of bodies at commit)) (changes_of bodies at history), length-changes_of bodies at history, one)
  where
    at_most_one : (change : Option Change) → length (option_to_list change) ≤ 1
    at_most_one None = omega arith
    at_most_one (Some c) = omega arith

find-none : {X : Type 0} (p : X → Bool) → ((x : X) → p x ≡ false) → (xs : List X) → find p xs ≡ None
find-none p none [] = refl
find-none p none (x ∷ xs) = ap (λ b. cond b (Some x) (find p xs)) (none x) ∙ find-none p none xs

worn-low : (found : Option Def) (it : Object Body) → it.number < 18446744073709551615 → is_worn (stands_as found it) ≡ false
worn-low None it low = refl
worn-low (Some def) it low = step (is_kept def.kind)
  where
    step : (kept : Bool) → is_worn (if kept then Some it else None) ≡ false
    step true = lt-leb 18446744073709551615 it.number low
    step false = refl

pub none-worn : (definitions : List Def) (w : Workspace) → length w.history < 9223372036854775808 → (changes : List Change) → is_none (first_worn (standing (bodies_of definitions) w) changes) ≡ true
none-worn definitions w few changes =
    let bodies = bodies_of definitions in
    let objects = standing bodies w in
    let none = find-none (λ (c : Change). is_worn (kept_at objects c.object)) (λ c. ap is_worn (kept_at-standing bodies w c.object) ∙ worn-low (slice_get w.definitions c.object) (object_of bodies w c.object) (omega (arith, few, length-changes_of bodies c.object w.history))) changes in
    ap (λ found. is_none (option_map (λ (c : Change). c.object) found)) none
