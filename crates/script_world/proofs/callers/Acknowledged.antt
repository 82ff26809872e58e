-- Behind an attempt that was done nothing is in doubt.
use Rattle.std.specs.Prelude.{◌≡◌, ◌++◌, List, [], ◌∷◌, length, take, Option, None, Some, slice_get, refl}
use Rattle.std.specs.Option.{option_to_list}
use Rattle.std.proofs.Common.{◌∙◌, ap, sym, subst, ⊎_elim, append-nil, arith, take_all}
use Rattle.std.proofs.lemmas.Option.{none-some, same_Some}
use Rattle.script_world.specs.Outcomes.{done, faulted, Attempt, settled_by, done_records, settled_records, IsInDoubt, LeavesAllDone}

empty-behind : {A : Type 0} (xs ys : List A) → xs ++ ys ≡ [] → ys ≡ []
empty-behind [] ys is = is
empty-behind (x ∷ xs) ys is = cc

past-last : {A : Type 0} (xs : List A) → slice_get xs (length xs) ≡ None
past-last [] = refl
past-last (x ∷ xs) = past-last xs

module _ {R : Type 0} where
  abbrev last_of : List (Attempt R) → Option (Attempt R)
  last_of [] = None
  last_of (attempt ∷ []) = Some attempt
  last_of (attempt ∷ next ∷ made) = last_of (next ∷ made)

  last_of-append : (before : List (Attempt R)) (first : Attempt R) (after : List (Attempt R)) → last_of (before ++ first ∷ after) ≡ last_of (first ∷ after)
  last_of-append [] first after = refl
  last_of-append (attempt ∷ []) first after = refl
  last_of-append (attempt ∷ next ∷ before) first after = last_of-append (next ∷ before) first after

  abbrev ends_done : R → Attempt R
  ends_done attempted = record { attempted = attempted; outcome = done }

  abbrev ends_faulted : R → Attempt R
  ends_faulted attempted = record { attempted = attempted; outcome = faulted }

  -- a list that ends with an attempt that was done has a record
  last-done : (made : List (Attempt R)) (attempted : R) → last_of made ≡ Some (ends_done attempted) → done_records made ≡ [] → ⊥
  last-done [] attempted is none = none-some (ends_done attempted) is
  last-done (attempt ∷ []) attempted is none =
      let same = same_Some attempt (ends_done attempted) is in
      let some : attempted ∷ [] ≡ [] = ap (λ it. settled_by it.outcome it.attempted ++ []) (sym same) ∙ none in
      cc
  last-done (attempt ∷ next ∷ made) attempted is none =
      last-done (next ∷ made) attempted is (empty-behind (settled_by attempt.outcome attempt.attempted) (done_records (next ∷ made)) none)

  faulted-last : (faulty attempted : R) → ends_faulted faulty ≡ ends_done attempted → ⊥
  faulted-last faulty attempted same = let outcomes : faulted ≡ done = ap (λ it. it.outcome) same in cc

  none-in_doubt : (made : List (Attempt R)) (attempted doubt : R) → IsInDoubt (made ++ ends_done attempted ∷ []) doubt → ⊥
  none-in_doubt made attempted doubt it = by_after it.after last it.none_done
    where
      last : last_of (ends_faulted doubt ∷ it.after) ≡ Some (ends_done attempted)
      last =
          sym (last_of-append it.before (ends_faulted doubt) it.after) ∙ ap last_of (sym it.split) ∙ last_of-append made (ends_done attempted) []

      by_after : (after : List (Attempt R)) → last_of (ends_faulted doubt ∷ after) ≡ Some (ends_done attempted) → done_records after ≡ [] → ⊥
      by_after [] last none = faulted-last doubt attempted (same_Some (ends_faulted doubt) (ends_done attempted) last)
      by_after (next ∷ after) last none = last-done (next ∷ after) attempted last none

  pub leaves_all_done : (Same : List R → List R → Type 0) (opened : List R) (made : List (Attempt R)) (attempted : R) (records : List R) → LeavesAllDone Same opened made attempted records
  leaves_all_done Same opened made attempted records may = by_more may.more refl
    where
      all : List (Attempt R)
      all = made ++ ends_done attempted ∷ []

      by_more : (more : Option R) → may.more ≡ more → Same records (settled_records opened all)
      by_more None is =
          subst (Same records) (ap (λ more. settled_records opened (take (length all) all) ++ option_to_list more) is ∙ append-nil (settled_records opened (take (length all) all)) ∙ ap (settled_records opened) (take_all (length all) all (omega arith))) may.are
      by_more (Some r) is =
          absurd (⊎_elim (λ begun. none-some begun.attempt (sym (past-last all) ∙ begun.comes)) (λ doubt. none-in_doubt made attempted r (subst (λ those. IsInDoubt those r) (take_all (length all) all (omega arith)) doubt)) (may.one r is))
