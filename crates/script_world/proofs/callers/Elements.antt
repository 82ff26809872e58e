-- Elements of a list that is longer, or has one element set.
use Rattle.std.specs.Prelude.{◌≡◌, ◌≢◌, ◌⊎◌, ◌++◌, ℕ, zero, suc, List, [], ◌∷◌, length, Some, slice_get, slice_set, refl}
use Rattle.std.proofs.Common.{ap, sym, inl, inr, ⊎_elim, arith}
use Rattle.std.proofs.lemmas.Option.{none-some, same_Some}

pub slice_get-set_other : {X : Type 0} (xs : List X) (i j : ℕ) (y : X) → j ≢ i → slice_get (slice_set xs i y) j ≡ slice_get xs j
slice_get-set_other [] i j y differs = refl
slice_get-set_other (x ∷ xs) zero zero y differs = absurd (differs refl)
slice_get-set_other (x ∷ xs) zero (suc j) y differs = refl
slice_get-set_other (x ∷ xs) (suc i) zero y differs = refl
slice_get-set_other (x ∷ xs) (suc i) (suc j) y differs = slice_get-set_other xs i j y (λ same. differs (ap suc same))

pub slice_get-append : {X : Type 0} (xs ys : List X) (j : ℕ) (z : X) → slice_get xs j ≡ Some z → slice_get (xs ++ ys) j ≡ Some z
slice_get-append [] ys j z is = absurd (none-some z is)
slice_get-append (x ∷ xs) ys zero z is = is
slice_get-append (x ∷ xs) ys (suc j) z is = slice_get-append xs ys j z is

pub slice_get-set_cases : {X : Type 0} (xs : List X) (i j : ℕ) (y z : X) → slice_get (slice_set xs i y) j ≡ Some z → ((j ≡ i) × (z ≡ y)) ⊎ ((j ≢ i) × (slice_get xs j ≡ Some z))
slice_get-set_cases [] i j y z is = absurd (none-some z is)
slice_get-set_cases (x ∷ xs) zero zero y z is = inl (refl, sym (same_Some y z is))
slice_get-set_cases (x ∷ xs) zero (suc j) y z is = inr (omega arith, is)
slice_get-set_cases (x ∷ xs) (suc i) zero y z is = inr (omega arith, is)
slice_get-set_cases (x ∷ xs) (suc i) (suc j) y z is =
    ⊎_elim (λ same. inl (ap suc same.0, same.1)) (λ other. inr (omega (arith, other.0), other.1)) (slice_get-set_cases xs i j y z is)

pub slice_get-push_cases : {X : Type 0} (xs : List X) (y : X) (j : ℕ) (z : X) → slice_get (xs ++ y ∷ []) j ≡ Some z → (slice_get xs j ≡ Some z) ⊎ ((j ≡ length xs) × (z ≡ y))
slice_get-push_cases [] y zero z is = inr (refl, sym (same_Some y z is))
slice_get-push_cases [] y (suc j) z is = absurd (none-some z is)
slice_get-push_cases (x ∷ xs) y zero z is = inl is
slice_get-push_cases (x ∷ xs) y (suc j) z is =
    ⊎_elim inl (λ last. inr (ap suc last.0, last.1)) (slice_get-push_cases xs y j z is)
