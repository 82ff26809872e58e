-- What the view of a session has of the objects that an ACQUIRE was granted of.
use Rattle.std.specs.Prelude.{◌≡◌, ◌≢◌, ◌==◌, ◌||◌, ◌++◌, ◌≤◌, ℕ, Bool, true, false, List, [], ◌∷◌, map, All, Option, Some, None, IsSome, refl}
use Rattle.std.specs.Option.{IsSomeAnd}
use Rattle.std.proofs.Common.{◌∙◌, ap, sym, subst, ⊎_elim}
use Rattle.std.proofs.lemmas.Bool.{eqb-true, true≢false}
use Rattle.std.proofs.lemmas.List.Elements.{All-nil, All-cons, All-head, All-tail}
use Rattle.std.proofs.lemmas.Option.{none-some, same_Some}
use Rattle.aw_body.specs.declared.body.Body.{Body}
use Rattle.aw_body.specs.declared.change.Change.{Change}
use Rattle.aw_body.specs.declared.change.Seen.{Seen}
use Rattle.aw_body.specs.Generations.{Bodies, latest_number}
use Rattle.aw_body.specs.KeptBodies.{bodies_of}
use Rattle.aw_body.specs.Owners.{owner_of}
use Rattle.mv_core.specs.declared.object.Object.{Object}
use Rattle.mv_core.specs.Effects.{taken_of}
use Rattle.mv_core.specs.Lookups.{latest_of}
use Rattle.mv_core.specs.Workspace.{Workspace, object_of as object_kept, standing}
use Rattle.mv_view.specs.Each.{object_in, names}
use Rattle.mv_view.specs.Fit as seen
use Rattle.mv_view.specs.Laws.{MayBeKept}
use Rattle.mv_view.specs.Rules as rule
use Rattle.mv_view.specs.ViewState.{ObjectView, ViewState, object_of, kept_kinds}
use Rattle.ses_step.specs.declared.session.Known.{Known as Session}
use Rattle.ses_step.specs.Sessions.{number_in}
use Rattle.script_meaning.specs.Fit.{ViewFits}
use Rattle.script_meaning.proofs.Begins.{generations_in, number-seen}
use Rattle.script_meaning.proofs.KeptKinds.{if-some, kept-seen}
use Rattle.script_meaning.proofs.Replies.{MayGrant, Unblocked, stands-at, latest-objects}

-- what holds of each object of a list holds of one that it names
pub names-all : (P : ℕ → Type 0) (objects : List ℕ) (at : ℕ) → All P objects → names objects at ≡ true → P at
names-all P [] at all named = cc
names-all P (object ∷ objects) at all named = by_test (object == at) refl named (names-all P objects at (All-tail P object objects all))
  where
    by_test : (test : Bool) → (object == at) ≡ test → (test || names objects at) ≡ true → (names objects at ≡ true → P at) → P at
    by_test true same named rest = subst P (eqb-true object at same) (All-head P object objects all)
    by_test false differs named rest = rest named

-- the objects of the generations that a session has
pub generations-objects : (s : Session) (keep : List ℕ) → map (λ (seen : Seen). seen.object) (generations_in s keep) ≡ keep
generations-objects s [] = refl
generations-objects s (object ∷ keep) = ap (λ (rest : List ℕ). object ∷ rest) (generations-objects s keep)

module _ (shared : Workspace) (s : Session) where
  abbrev bodies : Bodies Body Change
  bodies = bodies_of shared.definitions

  abbrev objects : List (Option (Object Body))
  objects = standing bodies shared

  abbrev pub IsUnblocked : Seen → Type 0
  IsUnblocked one = Unblocked objects s.who one.object (Some one.number)

  abbrev pub IsHanded : ℕ → Type 0
  IsHanded object = Unblocked objects s.who object None

  -- nobody but the session owns a kept object
  pub record Free (at : ℕ) : Type 0 where
    pub kept : IsSome (object_in (kept_kinds shared.definitions) at)
    pub others : (other : ℕ) → other ≢ s.who → owner_of shared.owners at ≢ Some other

  free-one : (at : ℕ) (number : Option ℕ) → Unblocked objects s.who at number → Free at
  free-one at number un =
      let stands = stands-at bodies shared at un.it un.stands in
      record {
        kept = subst IsSome (sym stands.kept) refl;
        others = λ other differs owned.
            let same : un.it.owner ≡ Some other = ap (λ (it : Object Body). it.owner) stands.is ∙ owned in
            ⊎_elim (λ none. none-some other (sym none.0 ∙ same)) (λ own. differs (same_Some other s.who (sym same ∙ own))) un.may;
      }

  free-fresh : (fresh : List ℕ) → All IsHanded fresh → All Free fresh
  free-fresh [] all = All-nil Free
  free-fresh (object ∷ fresh) all = All-cons Free object fresh (free-one object None (All-head IsHanded object fresh all)) (free-fresh fresh (All-tail IsHanded object fresh all))

  pub free-all : (keep fresh : List ℕ) → All IsUnblocked (generations_in s keep) → All IsHanded fresh → All Free (taken_of (generations_in s keep) fresh)
  free-all [] fresh each rest = free-fresh fresh rest
  free-all (object ∷ keep) fresh each rest =
      let one : Seen = record { object = object; number = number_in s object } in
      All-cons Free object (taken_of (generations_in s keep) fresh) (free-one object (Some (number_in s object)) (All-head IsUnblocked one (generations_in s keep) each)) (free-all keep fresh (All-tail IsUnblocked one (generations_in s keep) each) rest)

  -- what becomes the session's
  pub taken-objects : (keep fresh : List ℕ) → All IsHanded fresh → taken_of (generations_in s keep) fresh ≡ keep ++ rule.objects_of (latest_of objects fresh)
  taken-objects keep fresh handed =
      ap (λ (those : List ℕ). those ++ fresh) (generations-objects s keep) ∙ ap (λ (those : List ℕ). keep ++ those) (sym (latest-objects bodies shared s.who fresh handed))

  module _ (view : ViewState) (attached : s.view ≡ Some view) (fitting : ViewFits shared s.who view) where
    -- the session sees each, and has the latest generation of it where it doesn't own it
    pub record HasUnblocked (object : ℕ) (number : Option ℕ) : Type 0 where
      pub found : ObjectView
      pub there : object_of view object ≡ Some found
      pub may : MayGrant (object_kept bodies shared object) s.who number
      pub owns : owner_of shared.owners object ≡ Some s.who → found.owned ≡ true

    pub has-unblocked : (object : ℕ) (number : Option ℕ) → Unblocked objects s.who object number → HasUnblocked object number
    has-unblocked object number un =
        let stands = stands-at bodies shared object un.it un.stands in
        let it = kept-seen shared.definitions view object stands.kind fitting.fits.kinds stands.kept in
        let of_object = if-some (seen.ObjectFits bodies shared.history shared.owners view.who object) (object_of view object) it.0 it.1 (fitting.fits.each object) in
        record {
          found = it.0;
          there = it.1;
          may = subst (λ (o : Object Body). MayGrant o s.who number) stands.is un.may;
          owns = λ own. of_object.owned.1 (own ∙ ap Some (sym fitting.number));
        }

    pub may-be-kept : (keep : List ℕ) → All IsUnblocked (generations_in s keep) → MayBeKept bodies shared.history view keep
    may-be-kept [] each = tt
    may-be-kept (object ∷ keep) each =
        let one : Seen = record { object = object; number = number_in s object } in
        let it = has-unblocked object (Some (number_in s object)) (All-head IsUnblocked one (generations_in s keep) each) in
        let number : number_in s object ≡ it.found.number = number-seen s object (record { view = view; found = it.found; attached = attached; seen = it.there }) in
        let latest : it.found.owned ≡ false → latest_number bodies shared.history object ≤ it.found.number = λ not_own.
        ⊎_elim (λ none. subst (λ (n : ℕ). latest_number bodies shared.history object ≤ n) number none.1) (λ own. absurd (true≢false (sym (it.owns own) ∙ not_own))) it.may in
        (subst (λ (those : Option ObjectView). IsSomeAnd those (λ found. found.owned ≡ false → latest_number bodies shared.history object ≤ found.number)) (sym it.there) latest, may-be-kept keep (All-tail IsUnblocked one (generations_in s keep) each))
