-- Steps over lists of objects: what they keep, and one after the other.
use Rattle.std.specs.Prelude.{ℕ, ◌≡◌, ◌==◌, ◌+◌, Bool, true, false, cond, min, List, ◌∷◌, Option, Some, None, IfSome, is_some}
use Rattle.std.specs.Option.{option_map}
use Rattle.std.proofs.Common.{◌∙◌, ap, sym, refl, subst, arith}
use Rattle.aw_schema.specs.declared.definition.DefKind.{DefKind}
use Rattle.aw_body.specs.declared.body.Body.{Body}
use Rattle.aw_body.specs.BodyPatches.{difference}
use Rattle.aw_body.specs.Laws.{DifferenceGivesNewer}
use Rattle.mv_view.specs.Each.{object_in, each_from, only, listed, names}
use Rattle.mv_view.specs.ViewState.{ObjectView, IsSeen, AreSeen}
use Rattle.mv_view.specs.Rules.{is_staged, giving_up, releasing, committing, leaving_now, after_commit}
use Rattle.mv_view.specs.declared.kept.Step.{Step}
use Rattle.mv_view.specs.declared.kept.Step.TheVariants.{Update, Revert, Own, Release, Commit}
use Rattle.mv_view.specs.inside.Steps.{stepped}
use Rattle.mv_view.proofs.callers.Each.{object_in-each, each-each, each-same, listed-more}
use Rattle.mv_view.proofs.callers.Forms.{difference-itself}

-- ---- forms stay

pub AreSeen-each : (change : ℕ → ObjectView → ObjectView) (objects : List (Option ObjectView)) → ((at : ℕ) (object : ObjectView) → IsSeen object → IsSeen (change at object)) → AreSeen objects → AreSeen (each_from 0 change objects)
AreSeen-each change objects keeps seen =
    record { each = λ object. subst (λ (found : Option ObjectView). IfSome found IsSeen) (sym (object_in-each 0 change objects object object (omega arith))) (some object (object_in objects object) (seen.each object)) }
  where
    some : (object : ℕ) (found : Option ObjectView) → IfSome found IsSeen → IfSome (option_map (change object) found) IsSeen
    some object None is = tt
    some object (Some one) is = keeps object one is

pub IsSeen-if : (b : Bool) (changed object : ObjectView) → IsSeen changed → IsSeen object → IsSeen (cond b changed object)
IsSeen-if true changed object changed_is is = changed_is
IsSeen-if false changed object changed_is is = is

IsSeen-committing : (object : ObjectView) → IsSeen object → IsSeen (committing object)
IsSeen-committing object seen =
    IsSeen-if (is_staged object) (record object { number = min (object.number + 1) 18446744073709551615; base = object.staged }) object
    (record { base = seen.staged; staged = seen.staged; private = seen.private }) seen

IsSeen-giving_up : (object : ObjectView) → IsSeen object → IsSeen (giving_up object)
IsSeen-giving_up object seen = record { base = seen.base; staged = seen.staged; private = seen.private }

pub IsSeen-stepped : (step : Step) (object : ObjectView) → IsSeen object → IsSeen (stepped step object)
IsSeen-stepped Update object seen = record { base = seen.base; staged = seen.private; private = seen.private }
IsSeen-stepped Revert object seen = record { base = seen.base; staged = seen.staged; private = seen.staged }
IsSeen-stepped Own object seen = record { base = seen.base; staged = seen.staged; private = seen.private }
IsSeen-stepped Release object seen =
    IsSeen-if (is_staged object) (record object { leaving = true }) (giving_up object) (record { base = seen.base; staged = seen.staged; private = seen.private }) (IsSeen-giving_up object seen)
IsSeen-stepped Commit object seen =
    let after = committing object in
    let after_is = IsSeen-committing object seen in
    IsSeen-if object.owned (leaving_now after) object (IsSeen-if after.leaving (giving_up after) after (IsSeen-giving_up after after_is) after_is) seen

pub IsSeen-only : (object : ℕ) (change : ObjectView → ObjectView) → ((found : ObjectView) → IsSeen found → IsSeen (change found)) → (at : ℕ) (found : ObjectView) → IsSeen found → IsSeen (only object change at found)
IsSeen-only object change keeps at found seen = IsSeen-if (object == at) (change found) found (keeps found seen) seen

pub IsSeen-listed : (objects : List ℕ) (change : ObjectView → ObjectView) → ((found : ObjectView) → IsSeen found → IsSeen (change found)) → (at : ℕ) (found : ObjectView) → IsSeen found → IsSeen (listed objects change at found)
IsSeen-listed objects change keeps at found seen = IsSeen-if (names objects at) (change found) found (keeps found seen) seen

-- ---- a step made twice is made once

release-twice : (object : ObjectView) (b : Bool) → is_staged object ≡ b → releasing (releasing object) ≡ releasing object
release-twice object true is =
    let leaves : ObjectView = record object { leaving = true } in
    let once : releasing object ≡ leaves = ap (λ b. cond b leaves (giving_up object)) is in
    ap releasing once ∙ ap (λ b. cond b leaves (giving_up leaves)) is ∙ sym once
release-twice object false is =
    let given : ObjectView = giving_up object in
    let once : releasing object ≡ given = ap (λ b. cond b (record object { leaving = true }) given) is in
    ap releasing once ∙ ap (λ b. cond b (record given { leaving = true }) given) is ∙ sym once

-- an owned object, with its mark leaving
abbrev owned_one : DefKind → ℕ → Body → Body → Body → Bool → ObjectView
owned_one kind number base staged private leaving = record { kind = kind; number = number; base = base; staged = staged; private = private; owned = true; leaving = leaving }

settled : (object : ObjectView) → after_commit object ≡ object → after_commit (after_commit object) ≡ after_commit object
settled object same = ap after_commit same

-- what a change makes of it is left as it is by a second commit
commit-twice : (kind : DefKind) (number : ℕ) (base staged private : Body) (owned leaving staged_is : Bool) → is_some (difference base staged) ≡ staged_is → is_some (difference staged staged) ≡ false
    → let object : ObjectView = record { kind = kind; number = number; base = base; staged = staged; private = private; owned = owned; leaving = leaving } in after_commit (after_commit object) ≡ after_commit object
commit-twice kind number base staged private false leaving staged_is is itself = refl
commit-twice kind number base staged private true leaving false is itself =
    let object : ObjectView = owned_one kind number base staged private leaving in
    let next : ObjectView = record object { number = min (number + 1) 18446744073709551615; base = staged } in
    let once : after_commit object ≡ leaving_now object = ap (λ b. leaving_now (cond b next object)) is in
    ap after_commit once ∙ left leaving once ∙ sym once
  where
    left : (leaving : Bool) → after_commit (owned_one kind number base staged private leaving) ≡ leaving_now (owned_one kind number base staged private leaving) → after_commit (leaving_now (owned_one kind number base staged private leaving)) ≡ leaving_now (owned_one kind number base staged private leaving)
    left true once = refl
    left false once = once
commit-twice kind number base staged private true leaving true is itself =
    let object : ObjectView = owned_one kind number base staged private leaving in
    let next : ObjectView = owned_one kind (min (number + 1) 18446744073709551615) staged staged private leaving in
    let once : after_commit object ≡ leaving_now next = ap (λ b. leaving_now (cond b next object)) is in
    ap after_commit once ∙ left (min (number + 1) 18446744073709551615) leaving ∙ sym once
  where
    left : (after : ℕ) (leaving : Bool) → after_commit (leaving_now (owned_one kind after staged staged private leaving)) ≡ leaving_now (owned_one kind after staged staged private leaving)
    left after true = refl
    left after false = ap (λ b. leaving_now (cond b (owned_one kind (min (after + 1) 18446744073709551615) staged staged private false) (owned_one kind after staged staged private false))) itself

pub stepped-twice : DifferenceGivesNewer → (step : Step) (object : ObjectView) → IsSeen object → stepped step (stepped step object) ≡ stepped step object
stepped-twice law Update object seen = refl
stepped-twice law Revert object seen = refl
stepped-twice law Own object seen = refl
stepped-twice law Release object seen = release-twice object (is_staged object) refl
stepped-twice law Commit object seen =
    commit-twice object.kind object.number object.base object.staged object.private object.owned object.leaving (is_staged object) refl (difference-itself law object.kind object.staged seen.staged)

-- ---- a list of objects, one after the other

pub listed-steps : DifferenceGivesNewer → (first : ℕ) (rest : List ℕ) (step : Step) (objects : List (Option ObjectView)) → AreSeen objects → each_from 0 (listed rest (stepped step)) (each_from 0 (only first (stepped step)) objects) ≡ each_from 0 (listed (first ∷ rest) (stepped step)) objects
listed-steps law first rest step objects seen =
    each-each 0 (listed rest (stepped step)) (only first (stepped step)) objects
    ∙ each-same 0 (λ at found. listed rest (stepped step) at (only first (stepped step) at found)) (listed (first ∷ rest) (stepped step)) objects (λ k object is. one object (object_in objects k) (seen.each k))
  where
    one : (object : ℕ) (found : Option ObjectView) → IfSome found IsSeen → IfSome found (λ x. listed rest (stepped step) object (only first (stepped step) object x) ≡ listed (first ∷ rest) (stepped step) object x)
    one object None is = tt
    one object (Some x) is = listed-more first rest (stepped step) object x (stepped-twice law step x is)
