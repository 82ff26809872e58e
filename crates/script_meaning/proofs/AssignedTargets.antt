-- An assignment that passed is to a variable or a relation that the session sees.
use Rattle.std.specs.Prelude.{◌≡◌, ◌++◌, ℕ, Bool, true, false, map, List, [], ◌∷◌, Option, Some, None, Ok, slice_get, if◌then◌else◌, refl}
use Rattle.std.specs.Option.{option_map, option_and_then, option_or}
use Rattle.std.proofs.Common.{◌∙◌, ap, sym}
use Rattle.std.proofs.lemmas.Bool.{true≢false}
use Rattle.std.proofs.lemmas.Option.{none-some, same_Some}
use Rattle.aw_schema.specs.declared.definition.Def.{Def}
use Rattle.aw_schema.specs.declared.definition.DefKind.{DefKind}
use Rattle.aw_schema.specs.declared.definition.DefKind.TheVariants.{Dimension, Relation, Valueset, Variable, Formula, Program, Aggmap}
use Rattle.aw_schema.specs.Definitions as definition
use Rattle.aw_schema.specs.Definitions.{is_kept}
use Rattle.aw_codec.specs.declared.record.Decoded.{Decoded}
use Rattle.aw_store.specs.StoredRecords.{CanBeOpened}
use Rattle.dml_tree.specs.declared.expr.Expr.{Expr}
use Rattle.dml_tree.specs.declared.expr.Fix.{Fix as WrittenFix}
use Rattle.dml_tree.specs.declared.expr.Target.{Target}
use Rattle.dml_tree.specs.declared.statement.Statement.{Statement}
use Rattle.dml_tree.specs.declared.statement.Statement.TheVariants as statement
use Rattle.dml_kinds.specs.declared.fault.TypeFault.{TypeFault}
use Rattle.dml_kinds.specs.declared.fault.TypeFault.TheVariants.{Unknown, WrongKind, Repeat}
use Rattle.dml_kinds.specs.declared.meaning.Meaning.{Meaning}
use Rattle.dml_kinds.specs.declared.meaning.Meaning.TheVariants as meaning
use Rattle.dml_kinds.specs.declared.meaning.Known.{Known}
use Rattle.dml_kinds.specs.declared.meaning.Role.TheVariants as role
use Rattle.dml_kinds.specs.declared.meaning.Use.{Use}
use Rattle.dml_kinds.specs.Checking.{answer}
use Rattle.dml_kinds.specs.Meanings.{Names, names_in, object_known, object_defined, meaning_of, can_be_assigned, can_be_assigned_at, fits}
use Rattle.dml_kinds.specs.Names.{use_as, role_of, uses, groups, targets_of_all, first_of, unknown, wrong_kind, repeated, names_refusal}
use Rattle.dml_types.specs.declared.checking.Typed.{Typed}
use Rattle.dml_types.specs.Checking.{statement_refusal}
use Rattle.dml_types.specs.Statements.{own_group}
use Rattle.mv_view.specs.ViewState.{kept_kinds}
use Rattle.ses_value.specs.declared.target.AssignedTo.{AssignedTo}
use Rattle.ses_step.specs.Meant.{fixes_of, target_of}
use Rattle.ses_step.specs.Refusing.{checked}
use Rattle.script_world.specs.Outcomes.{Outcome}
use Rattle.script_world.specs.Worlds.{Event}
use Rattle.script_meaning.specs.LineAnswers.{AssignmentsHaveTargets}
use Rattle.script_meaning.specs.Transcript.{world_at}
use Rattle.script_meaning.proofs.KeptKinds.{here-kept, kept-seen}
use Rattle.script_meaning.proofs.ReachableWorlds.{fits_at, found_at_number}
use Rattle.script_meaning.proofs.Replies.{or-none}
use Rattle.script_meaning.proofs.TurnCases.{fitting}

-- ---- what isn't refused

none-mapped : {X Y : Type 0} (f : X → Y) (found : Option X) → option_map f found ≡ None → found ≡ None
none-mapped f None none = refl
none-mapped f (Some x) none = cc

unrefused : {X : Type 0} (refusal : Option TypeFault) (value given : X) → answer refusal value ≡ Ok given → refusal ≡ None
unrefused None value given is = refl
unrefused (Some fault) value given is = cc

module _ (names : Names) (needed : Use) (others : List Use) (all : List (List (List ℕ))) (none : names_refusal names (needed ∷ others) all ≡ None) where
  parts : (option_map Unknown (first_of (unknown names) (needed ∷ others)) ≡ None) × (option_or (option_map WrongKind (first_of (wrong_kind names) (needed ∷ others))) (option_map Repeat (first_of (repeated names) all)) ≡ None)
  parts = or-none (option_map Unknown (first_of (unknown names) (needed ∷ others))) (option_or (option_map WrongKind (first_of (wrong_kind names) (needed ∷ others))) (option_map Repeat (first_of (repeated names) all))) none

  is-known : unknown names needed ≡ None
  is-known = (or-none (unknown names needed) (first_of (unknown names) others) (none-mapped Unknown (first_of (unknown names) (needed ∷ others)) parts.0)).0

  of-kind : wrong_kind names needed ≡ None
  of-kind =
      let first = (or-none (option_map WrongKind (first_of (wrong_kind names) (needed ∷ others))) (option_map Repeat (first_of (repeated names) all)) parts.1).0 in
      (or-none (wrong_kind names needed) (first_of (wrong_kind names) others) (none-mapped WrongKind (first_of (wrong_kind names) (needed ∷ others)) first)).0

-- a name that isn't refused means something that it may mean there
named-so : (names : Names) (needed : Use) → unknown names needed ≡ None → wrong_kind names needed ≡ None → (known : Known) × (names needed.name ≡ Some known) × (fits needed.role known.meaning ≡ true)
named-so names needed there right = by (names needed.name) refl there right
  where
    by_fit : (name : List ℕ) (b : Bool) → (if b then None else Some name) ≡ None → b ≡ true
    by_fit name true none = refl
    by_fit name false none = cc

    by : (found : Option Known) → names needed.name ≡ found → elim found as (λ _. Option (List ℕ)) [ Some known ↦ None | None ↦ Some needed.name ] ≡ None
        → elim found as (λ _. Option (List ℕ)) [ Some known ↦ if fits needed.role known.meaning then None else Some known.name | None ↦ None ] ≡ None
        → (known : Known) × (names needed.name ≡ Some known) × (fits needed.role known.meaning ≡ true)
    by None is there right = cc
    by (Some known) is there right = (known, is, by_fit known.name (fits needed.role known.meaning) right)

-- ---- what is assigned to

not-assigned : {A : Type 0} (m : Meaning) (fixes : List WrittenFix) → can_be_assigned m ≡ false → can_be_assigned_at m ≡ false → fits (role_of role.Assigned role.AssignedAt fixes) m ≡ true → A
not-assigned m [] plain at fit = absurd (true≢false (sym fit ∙ plain))
not-assigned m (fix ∷ fixes) plain at fit = absurd (true≢false (sym fit ∙ at))

-- a definition of which cells are written
pub record IsWritable (definitions : List Def) (kind : DefKind) : Type 0 where
  pub kept : is_kept kind ≡ true
  pub target : (written : List WrittenFix) → (to : AssignedTo) × (target_of kind (fixes_of definitions written) ≡ Some to)

module _ (definitions : List Def) (object : ℕ) (name : List ℕ) (fixes : List WrittenFix) where
  abbrev known_as : Meaning → Known
  known_as m = record { name = name; meaning = m }

  refused : {A : Type 0} (m : Meaning) (known : Known) → can_be_assigned m ≡ false → can_be_assigned_at m ≡ false → Some (known_as m) ≡ Some known → fits (role_of role.Assigned role.AssignedAt fixes) known.meaning ≡ true → A
  refused m known plain at is fit =
      not-assigned m fixes plain at (ap (λ (one : Known). fits (role_of role.Assigned role.AssignedAt fixes) one.meaning) (same_Some (known_as m) known is) ∙ fit)

  writable : (kind : DefKind) (known : Known) → option_map known_as (meaning_of [] object kind) ≡ Some known → fits (role_of role.Assigned role.AssignedAt fixes) known.meaning ≡ true → IsWritable definitions kind
  writable (Variable k dimensions) known is fit = record { kept = refl; target = λ written. (_, refl) }
  writable (Relation goes_to base) known is fit = record { kept = refl; target = λ written. (_, refl) }
  writable Dimension known is fit = refused (meaning.Dimension object) known refl refl is fit
  writable (Valueset dimension) known is fit = refused (meaning.Valueset object dimension) known refl refl is fit
  writable (Formula text) known is fit = absurd (none-some known is)
  writable (Program text) known is fit = absurd (none-some known is)
  writable (Aggmap text) known is fit = absurd (none-some known is)

pub record IsTarget (definitions : List Def) (target : Target) : Type 0 where
  pub object : ℕ
  pub def : Def
  pub place : definition.object_of definitions target.name ≡ Some object
  pub there : slice_get definitions object ≡ Some def
  pub writable : IsWritable definitions def.kind

module _ (definitions : List Def) (target : Target) (known : Known) (fit : fits (role_of role.Assigned role.AssignedAt target.fixes) known.meaning ≡ true) where
  by_def : (object : ℕ) → definition.object_of definitions target.name ≡ Some object → (found : Option Def) → slice_get definitions object ≡ found → option_and_then (object_defined [] object) found ≡ Some known → IsTarget definitions target
  by_def object place None there is = absurd (none-some known is)
  by_def object place (Some def) there is = record { object = object; def = def; place = place; there = there; writable = writable definitions object def.name target.fixes def.kind known is fit }

  by_place : (found : Option ℕ) → definition.object_of definitions target.name ≡ found → option_and_then (object_known definitions []) found ≡ Some known → IsTarget definitions target
  by_place None place is = absurd (none-some known is)
  by_place (Some object) place is = by_def object place (slice_get definitions object) refl is

  target-named : names_in definitions [] [] target.name ≡ Some known → IsTarget definitions target
  unfolding names_in
  target-named is = by_place (definition.object_of definitions target.name) refl is

target-accepted : (definitions : List Def) (target : Target) (e : Expr) (typed : Typed) → checked definitions (statement.Assign target e) ≡ Ok typed → IsTarget definitions target
target-accepted definitions target e typed is =
    let names = names_in definitions [] [] in
    let it : Statement = statement.Assign target e in
    let needed = use_as (role_of role.Assigned role.AssignedAt target.fixes) target.name in
    let others = map (λ (fix : WrittenFix). use_as role.Dimension fix.dimension) target.fixes ++ uses (targets_of_all (e ∷ [])) in
    let all = own_group it ∷ groups (targets_of_all (e ∷ [])) in
    let none : names_refusal names (needed ∷ others) all ≡ None = (or-none (names_refusal names (needed ∷ others) all) _ (unrefused (statement_refusal names [] it) _ typed is)).0 in
    let named = named-so names needed (is-known names needed others all none) (of-kind names needed others all none) in
    target-named definitions target named.0 named.2 named.1

-- ---- after any lines

pub targets_seen : (names : List (List ℕ)) (records : List Decoded) (coming : List Outcome) (events : List Event) → CanBeOpened records → AssignmentsHaveTargets (world_at names records coming events)
targets_seen names records coming events can disk who s view is found attached target e passed =
    let w = world_at names records coming events in
    let all = fits_at names records coming events can disk is in
    let kinds = (fitting w.definitions w.names w.sessions disk.state s all (found_at_number names records coming events can disk who s is found) view attached).fits.kinds ∙ ap kept_kinds all.definitions_are in
    let its = target-accepted w.definitions target e passed.typed passed.fits in
    let seen = kept-seen w.definitions view its.object its.def.kind kinds (here-kept w.definitions its.object its.def its.there its.writable.kept) in
    let to = its.writable.target target.fixes in
    (its.object, to.0, record { named = its.place; found = seen.0; seen = seen.1; is = ap (λ (kind : DefKind). target_of kind (fixes_of w.definitions target.fixes)) seen.2 ∙ to.1 })
