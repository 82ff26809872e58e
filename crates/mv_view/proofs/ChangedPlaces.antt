-- What holds of a view's places after a change.
use Rattle.std.specs.Prelude.{ℕ, zero, suc, ◌≡◌, ◌==◌, Bool, true, false, cond, List, [], ◌∷◌, map, length, replicate, Option, Some, None, IfSome, slice_set}
use Rattle.std.specs.Option.{option_map, IsSomeAnd}
use Rattle.std.proofs.Common.{◌∙◌, ap, sym, refl, subst, arith, eqb-true}
use Rattle.aw_schema.specs.declared.definition.DefKind.{DefKind}
use Rattle.aw_var.specs.CellMap.{Cells}
use Rattle.aw_dim.specs.DimensionState.{DimensionState}
use Rattle.aw_body.specs.declared.body.Body.TheVariants.{Dim, Set}
use Rattle.aw_body.specs.declared.change.Fresh.{Fresh}
use Rattle.aw_body.specs.declared.patch.BodyPatch.TheVariants.{Cells as CellPatch}
use Rattle.aw_body.specs.Bodies.{IsBody, IsBodyOf}
use Rattle.aw_body.specs.BodyPatches.{applied}
use Rattle.aw_body.proofs.CallerLemmas.{IsBodyOf-applied}
use Rattle.mv_view.specs.Each.{object_in, each_from, only, numbers_from}
use Rattle.mv_view.specs.ViewState.{ObjectView, IsOf, IsSeen, AreSeen, HasForm, kind_of, is_owned}
use Rattle.mv_view.specs.Rules as rule
use Rattle.mv_view.specs.inside.Places.{IsListed}
use Rattle.mv_view.proofs.callers.Each.{object_in-each, length-each, numbers-same}

-- ---- one object

pub AreSeen-only : (object : ℕ) (change : ObjectView → ObjectView) (objects : List (Option ObjectView)) → AreSeen objects → ((found : ObjectView) → object_in objects object ≡ Some found → IsSeen found → IsSeen (change found)) → AreSeen (each_from 0 (only object change) objects)
AreSeen-only object change objects seen changed =
    record { each = λ at. subst (λ (found : Option ObjectView). IfSome found IsSeen) (sym (object_in-each 0 (only object change) objects at at (omega arith))) (some at (object_in objects at) refl (seen.each at)) }
  where
    step : (b : Bool) (x : ObjectView) → (b ≡ true → IsSeen (change x)) → IsSeen x → IsSeen (cond b (change x) x)
    step true x new old = new refl
    step false x new old = old

    some : (at : ℕ) (found : Option ObjectView) → object_in objects at ≡ found → IfSome found IsSeen → IfSome (option_map (only object change at) found) IsSeen
    some at None is old = tt
    some at (Some x) is old = step (object == at) x (λ same. changed x (ap (object_in objects) (eqb-true object at same) ∙ is) old) old

some-holds : (P : ObjectView → Type 0) (found : Option ObjectView) (one : ObjectView) → found ≡ Some one → IsSomeAnd found P → P one
some-holds P found one is holds = subst (λ (f : Option ObjectView). IsSomeAnd f P) is holds

if-holds : (P : ObjectView → Type 0) (found : Option ObjectView) (one : ObjectView) → found ≡ Some one → IfSome found P → P one
if-holds P found one is holds = subst (λ (f : Option ObjectView). IfSome f P) is holds

-- the kind of an object
pub kind-in : (objects : List (Option ObjectView)) (k : ℕ) (P : DefKind → Type 0) → IsSomeAnd (object_in (map (option_map kind_of) objects) k) P → IsSomeAnd (object_in objects k) (λ found. P found.kind)
kind-in [] k P holds = holds
kind-in (None ∷ objects) zero P holds = holds
kind-in (Some found ∷ objects) zero P holds = holds
kind-in (found ∷ objects) (suc k) P holds = kind-in objects k P holds

pub seen-renewed : (objects : List (Option ObjectView)) (fresh : Fresh) → AreSeen objects → HasForm (map (option_map kind_of) objects) fresh → IsBody fresh.body → AreSeen (each_from 0 (only fresh.object (rule.with_latest fresh)) objects)
seen-renewed objects fresh seen form valid =
    AreSeen-only fresh.object (rule.with_latest fresh) objects seen
    (λ found is old.
    let is_of : IsOf found.kind fresh.body = record { form = some-holds (λ one. IsBodyOf one.kind fresh.body) (object_in objects fresh.object) found is (kind-in objects fresh.object (λ kind. IsBodyOf kind fresh.body) form); valid = valid } in
    record { base = is_of; staged = is_of; private = is_of })

pub seen-selected : (objects : List (Option ObjectView)) (object : ℕ) (slots : List ℕ) → AreSeen objects → IsSomeAnd (object_in objects object) (λ found. IsBodyOf found.kind (Set slots)) → AreSeen (each_from 0 (only object (rule.with_slots slots)) objects)
seen-selected objects object slots seen form =
    AreSeen-only object (rule.with_slots slots) objects seen
    (λ found is old. record { base = old.base; staged = old.staged; private = record { form = some-holds (λ one. IsBodyOf one.kind (Set slots)) (object_in objects object) found is form; valid = tt } })

pub seen-maintained : (objects : List (Option ObjectView)) (object : ℕ) (values : DimensionState) → AreSeen objects → IsSomeAnd (object_in objects object) (λ found. IsBodyOf found.kind (Dim values)) → IsBody (Dim values) → AreSeen (each_from 0 (only object (rule.with_values values)) objects)
seen-maintained objects object values seen form valid =
    AreSeen-only object (rule.with_values values) objects seen
    (λ found is old.
    let is_of : IsOf found.kind (Dim values) = record { form = some-holds (λ one. IsBodyOf one.kind (Dim values)) (object_in objects object) found is form; valid = valid } in
    record { base = old.base; staged = is_of; private = is_of })

pub seen-written : (objects : List (Option ObjectView)) (object : ℕ) (cells : Cells) → AreSeen objects → IfSome (object_in objects object) (λ found. IsBody (applied found.private (CellPatch cells))) → AreSeen (each_from 0 (only object (rule.with_cells cells)) objects)
seen-written objects object cells seen valid =
    AreSeen-only object (rule.with_cells cells) objects seen
    (λ found is old. record {
      base = old.base;
      staged = old.staged;
      private = record {
        form = IsBodyOf-applied found.kind found.private (CellPatch cells) old.private.form;
        valid = if-holds (λ one. IsBody (applied one.private (CellPatch cells))) (object_in objects object) found is valid;
      };
    })

-- ---- all objects

-- the owned objects stay listed where a change leaves who owns what
pub IsListed-same : (objects after : List (Option ObjectView)) (those : List ℕ) (room : ℕ) (change : ℕ → ObjectView → ObjectView) → after ≡ each_from 0 change objects → ((at : ℕ) (found : ObjectView) → (change at found).owned ≡ found.owned) → AreSeen after → IsListed objects those room → IsListed after those room
IsListed-same objects after those room change is same seen listed =
    let size = ap length is ∙ length-each 0 change objects in
    let places = listed.places in
    record {
      owned = listed.owned ∙ sym (ap (numbers_from is_owned 0) is ∙ numbers-same is_owned 0 change objects same);
      places = omega arith;
      seen = seen;
    }

pub owned-cond : (b : Bool) (one other : ObjectView) → one.owned ≡ other.owned → (cond b one other).owned ≡ other.owned
owned-cond true one other same = same
owned-cond false one other same = refl

pub owned-renewed : (latest : Option Fresh) (found : ObjectView) → (rule.renewed latest found).owned ≡ found.owned
owned-renewed None found = refl
owned-renewed (Some one) found = refl

-- ---- places

place-set : (objects : List (Option ObjectView)) (k j : ℕ) (x : ObjectView) → ((j : ℕ) → IfSome (object_in objects j) IsSeen) → IsSeen x → IfSome (object_in (slice_set objects k (Some x)) j) IsSeen
place-set [] k j x seen is = tt
place-set (first ∷ objects) zero zero x seen is = is
place-set (first ∷ objects) zero (suc j) x seen is = seen (suc j)
place-set (first ∷ objects) (suc k) zero x seen is = seen 0
place-set (first ∷ objects) (suc k) (suc j) x seen is = place-set objects k j x (λ n. seen (suc n)) is

pub AreSeen-set : (objects : List (Option ObjectView)) (k : ℕ) (x : ObjectView) → AreSeen objects → IsSeen x → AreSeen (slice_set objects k (Some x))
AreSeen-set objects k x seen is = record { each = λ j. place-set objects k j x seen.each is }

no-object : (n k : ℕ) → object_in (replicate n (let none : Option ObjectView = None in none)) k ≡ None
no-object zero k = refl
no-object (suc n) zero = refl
no-object (suc n) (suc k) = no-object n k

pub AreSeen-none : (objects : List (Option ObjectView)) (n : ℕ) → objects ≡ replicate n None → AreSeen objects
AreSeen-none objects n is = record { each = λ k. subst (λ (found : Option ObjectView). IfSome found IsSeen) (sym (ap (λ (those : List (Option ObjectView)). object_in those k) is ∙ no-object n k)) tt }
