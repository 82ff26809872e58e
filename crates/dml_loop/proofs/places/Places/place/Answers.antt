use Rattle.std.proofs.Common.{◌≡◌, ◌∷◌, ℕ, List, drop, subst}
use Rattle.dml_loop.proofs.WheelTurns.{next_place}
use Rattle.dml_loop.proofs.places.Places.place.Goals as goal

pub returns-else-self : goal.returns-else-self
returns-else-self c =
    let p = c.self.inside in
    subst (λ (all : List (List (ℕ × ℕ))). all ≡ p.place ∷ drop 1 all) c.self.view_is (next_place p.over p.place p.wheels.items c.if-self.false c.self.invariant.0)
