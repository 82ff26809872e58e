-- The objects that a view lists as owned are owned.
use Rattle.std.proofs.Common.{refl, ap, eq-eqb, ◌∙◌, sym, arith}
use Rattle.std.specs.Prelude.{ℕ, ◌≡◌, ◌==◌, ◌||◌, Bool, true, false, List, [], ◌∷◌, Option, Some, None}
use Rattle.std.specs.Option.{IsSomeAnd}
use Rattle.mv_view.specs.Each.{names, passes}
use Rattle.mv_view.specs.ViewState.{ObjectView, ViewState, object_of, is_owned, AreOwned, owned_objects}
use Rattle.mv_view.proofs.callers.Each.{names-numbers}

owned-passes : (found : Option ObjectView) → passes is_owned found ≡ true → IsSomeAnd found (λ one. one.owned ≡ true)
owned-passes None is = cc
owned-passes (Some one) is = is

or-right : (a b : Bool) → b ≡ true → (a || b) ≡ true
or-right true b is = refl
or-right false b is = is

owned-named : (view : ViewState) (those : List ℕ) → ((object : ℕ) → names those object ≡ true → passes is_owned (object_of view object) ≡ true) → AreOwned view those
owned-named view [] each = tt
owned-named view (first ∷ rest) each = (
  owned-passes (object_of view first) (each first (ap (λ b. b || names rest first) (eq-eqb first first refl))),
  owned-named view rest (λ object named. each object (or-right (first == object) (names rest object) named)),
)

pub owned-listed : (view : ViewState) → AreOwned view (owned_objects view)
owned-listed view = owned-named view (owned_objects view) (λ object named. sym (names-numbers is_owned 0 view.objects object object (omega arith)) ∙ named)
