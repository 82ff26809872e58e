-- Which element stands at a place after one was put in, taken out, or written over.
use Rattle.std.proofs.Common.{ℕ, zero, suc, ◌≡◌, ◌≢◌, ◌+◌, ◌<◌, ◌≤◌, ◌⊎◌, List, [], ◌∷◌, ◌++◌, length, slice_get, slice_set, Some, None, insert, remove, refl, sym, ◌∙◌, ap, arith, inl, inr, ⊎_elim}
use Rattle.std.proofs.Common.{take, drop, append-nil}
use Rattle.std.proofs.lemmas.Bool.{cases_lt, cases_order}
use Rattle.std.proofs.lemmas.List.{drop_all, take_all}
use Rattle.std.proofs.lemmas.Option.{slice_get_within}

module _ {X : Type 0} where
  pub insert_below : (xs : List X) (i k : ℕ) (y : X) → k < i → i ≤ length xs → slice_get (insert xs i y) k ≡ slice_get xs k
  insert_below xs zero k y h g = absurd (omega (arith, h))
  insert_below [] (suc i) k y h g = absurd (omega (arith, g))
  insert_below (x ∷ xs) (suc i) zero y h g = refl
  insert_below (x ∷ xs) (suc i) (suc k) y h g = insert_below xs i k y (omega (arith, h)) (omega (arith, g))

  pub insert_at : (xs : List X) (i : ℕ) (y : X) → i ≤ length xs → slice_get (insert xs i y) i ≡ Some y
  insert_at xs zero y g = refl
  insert_at [] (suc i) y g = absurd (omega (arith, g))
  insert_at (x ∷ xs) (suc i) y g = insert_at xs i y (omega (arith, g))

  pub insert_above : (xs : List X) (i k : ℕ) (y : X) → i ≤ k → i ≤ length xs → slice_get (insert xs i y) (suc k) ≡ slice_get xs k
  insert_above xs zero k y h g = refl
  insert_above [] (suc i) k y h g = absurd (omega (arith, g))
  insert_above (x ∷ xs) (suc i) zero y h g = absurd (omega (arith, h))
  insert_above (x ∷ xs) (suc i) (suc k) y h g = insert_above xs i k y (omega (arith, h)) (omega (arith, g))

  pub remove_below : (xs : List X) (i k : ℕ) → k < i → slice_get (remove xs i) k ≡ slice_get xs k
  remove_below xs zero k h = absurd (omega (arith, h))
  remove_below [] (suc i) k h = refl
  remove_below (x ∷ xs) (suc i) zero h = refl
  remove_below (x ∷ xs) (suc i) (suc k) h = remove_below xs i k (omega (arith, h))

  pub remove_from : (xs : List X) (i k : ℕ) → i ≤ k → slice_get (remove xs i) k ≡ slice_get xs (suc k)
  remove_from [] zero k h = refl
  remove_from (x ∷ xs) zero k h = refl
  remove_from [] (suc i) k h = refl
  remove_from (x ∷ xs) (suc i) zero h = absurd (omega (arith, h))
  remove_from (x ∷ xs) (suc i) (suc k) h = remove_from xs i k (omega (arith, h))

  pub set_at : (xs : List X) (i : ℕ) (y : X) → i < length xs → slice_get (slice_set xs i y) i ≡ Some y
  set_at [] i y h = absurd (omega (arith, h))
  set_at (x ∷ xs) zero y h = refl
  set_at (x ∷ xs) (suc i) y h = set_at xs i y (omega (arith, h))

  pub set_other : (xs : List X) (i k : ℕ) (y : X) → i ≢ k → slice_get (slice_set xs i y) k ≡ slice_get xs k
  set_other [] i k y h = refl
  set_other (x ∷ xs) zero zero y h = absurd (h refl)
  set_other (x ∷ xs) zero (suc k) y h = refl
  set_other (x ∷ xs) (suc i) zero y h = refl
  set_other (x ∷ xs) (suc i) (suc k) y h = set_other xs i k y (λ e. h (ap suc e))

  pub append_left : (xs ys : List X) (k : ℕ) (x : X) → slice_get xs k ≡ Some x → slice_get (xs ++ ys) k ≡ Some x
  append_left [] ys k x h = absurd cc
  append_left (z ∷ xs) ys zero x h = h
  append_left (z ∷ xs) ys (suc k) x h = append_left xs ys k x h

  -- two elements at one place are one
  pub one_element : (xs : List X) (k : ℕ) (x y : X) → slice_get xs k ≡ Some x → slice_get xs k ≡ Some y → x ≡ y
  one_element xs k x y h g = let e : Some x ≡ Some y = sym h ∙ g in cc

-- the element at a place of the list into which one was put at i stood at another place before
pub record Shifted {X : Type 0} (xs : List X) (i k : ℕ) (x : X) : Type 0 where
  pub place : ℕ
  pub value : slice_get xs place ≡ Some x
  pub below : k < i → place ≡ k
  pub above : i < k → place + 1 ≡ k
  pub other : k ≢ i

-- the element at a place of the list from which one was taken at i stood at another place before
pub record Drawn {X : Type 0} (xs : List X) (i k : ℕ) (x : X) : Type 0 where
  pub place : ℕ
  pub value : slice_get xs place ≡ Some x
  pub below : k < i → place ≡ k
  pub from : i ≤ k → place ≡ k + 1
  pub other : place ≢ i

module _ {X : Type 0} where
  -- an element of the list into which y was put at i is y, or was there before
  pub shifted : (xs : List X) (i k : ℕ) (y x : X) → i ≤ length xs → slice_get (insert xs i y) k ≡ Some x → ((k ≡ i) × (y ≡ x)) ⊎ Shifted xs i k x
  shifted xs i k y x g h =
      elim (cases_order k i) [
        | inl e ↦ inl (e, one_element (insert xs i y) i y x (insert_at xs i y g) (rw e at h))
        | inr other ↦ elim other [
          | inl less ↦ inr record { place = k; value = sym (insert_below xs i k y less g) ∙ h; below = λ _. refl; above = λ more. absurd (omega (arith, less, more)); other = omega (arith, less) }
          | inr more ↦ inr (behind xs i k y x g h more)
        ]
      ]
    where
      behind : (xs : List X) (i k : ℕ) (y x : X) → i ≤ length xs → slice_get (insert xs i y) k ≡ Some x → i < k → Shifted xs i k x
      behind xs i zero y x g h more = absurd (omega (arith, more))
      behind xs i (suc k) y x g h more = record { place = k; value = sym (insert_above xs i k y (omega (arith, more)) g) ∙ h; below = λ less. absurd (omega (arith, less, more)); above = λ _. omega arith; other = omega (arith, more) }

  -- what was there before is there still
  pub kept : (xs : List X) (i k : ℕ) (y x : X) → i ≤ length xs → slice_get xs k ≡ Some x → (place : ℕ) × (slice_get (insert xs i y) place ≡ Some x)
  kept xs i k y x g h =
      elim (cases_lt k i) [
        | inl less ↦ (k, insert_below xs i k y less g ∙ h)
        | inr more ↦ (suc k, insert_above xs i k y more g ∙ h)
      ]

  pub drawn : (xs : List X) (i k : ℕ) (x : X) → slice_get (remove xs i) k ≡ Some x → Drawn xs i k x
  drawn xs i k x h =
      elim (cases_lt k i) [
        | inl less ↦ record { place = k; value = sym (remove_below xs i k less) ∙ h; below = λ _. refl; from = λ more. absurd (omega (arith, less, more)); other = omega (arith, less) }
        | inr more ↦ record { place = suc k; value = sym (remove_from xs i k more) ∙ h; below = λ less. absurd (omega (arith, less, more)); from = λ _. omega arith; other = omega (arith, more) }
      ]

  -- what stood at another place is there still
  pub left_in : (xs : List X) (i k : ℕ) (x : X) → k ≢ i → slice_get xs k ≡ Some x → (place : ℕ) × (slice_get (remove xs i) place ≡ Some x)
  left_in xs i zero x ne h =
      elim (cases_lt zero i) [
        | inl less ↦ (zero, remove_below xs i zero less ∙ h)
        | inr more ↦ absurd (ne (omega (arith, more)))
      ]
  left_in xs i (suc k) x ne h =
      elim (cases_lt (suc k) i) [
        | inl less ↦ (suc k, remove_below xs i (suc k) less ∙ h)
        | inr more ↦ (k, remove_from xs i k (let le : i ≤ suc k = more in omega (arith, le, ne)) ∙ h)
      ]

-- elements behind one another stood behind one another
pub shifted_order : {X : Type 0} (xs : List X) (at i j : ℕ) (x y : X) (one : Shifted xs at i x) (other : Shifted xs at j y) → i < j → one.place < other.place
shifted_order xs at i j x y one other less =
    elim (cases_order i at) [
      | inl e ↦ absurd (one.other e)
      | inr apart ↦ elim (cases_order j at) [
        | inl e ↦ absurd (other.other e)
        | inr away ↦ elim apart [
          | inl low ↦ let p = one.below low in elim away [ inl under ↦ let q = other.below under in omega (arith, p, q, less) | inr over ↦ let q = other.above over in omega (arith, p, q, low, over) ]
          | inr high ↦ let p = one.above high in elim away [ inl under ↦ absurd (omega (arith, high, under, less)) | inr over ↦ let q = other.above over in omega (arith, p, q, less) ]
        ]
      ]
    ]

-- two elements of one place before stand at one place
pub shifted_same : {X : Type 0} (xs : List X) (at i j : ℕ) (x y : X) (one : Shifted xs at i x) (other : Shifted xs at j y) → one.place ≡ other.place → i ≡ j
shifted_same xs at i j x y one other same =
    elim (cases_order i j) [
      | inl e ↦ e
      | inr apart ↦ elim apart [
        | inl less ↦ let h = shifted_order xs at i j x y one other less in absurd (omega (arith, h, same))
        | inr more ↦ let h = shifted_order xs at j i y x other one more in absurd (omega (arith, h, same))
      ]
    ]

-- what is left of a list over all of which another of its length was written
pub all_written : {X : Type 0} (n : ℕ) (xs ys : List X) → length xs ≡ n → length ys ≡ n → take n (xs ++ drop (length xs) ys) ≡ xs
all_written n xs ys e f =
    rw (drop_all (length xs) ys (omega (arith, e, f)), append-nil xs) (take_all n xs (omega (arith, e)))
