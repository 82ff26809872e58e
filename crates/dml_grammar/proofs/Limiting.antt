-- The limits are kept by fronts, and the tokens that keep them are counted.
use Rattle.std.specs.Prelude.{ℕ, zero, suc, ◌≡◌, ◌<◌, ◌≤◌, ◌⊎◌, Bool, true, false, List, [], ◌∷◌, length, take}
use Rattle.std.proofs.Common.{refl, arith, inl, inr}
use Rattle.std.proofs.lemmas.Bool.{and_parts}
use Rattle.dml_forms.specs.Refusing.{IsKeptByFronts}
use Rattle.dml_forms.specs.inside.Front.{IsLongestFront}
use Rattle.dml_grammar.specs.declared.placed.Placed.{Placed}
use Rattle.dml_grammar.specs.declared.limits.Counts.{Counts}
use Rattle.dml_grammar.specs.Limits.{counted, is_allowed, keeps_from, keeps_limits, none_counted}
use Rattle.dml_grammar.specs.inside.Fronts.{front}

pub one_way : (b : Bool) → (b ≡ true) ⊎ (b ≡ false)
one_way true = inl refl
one_way false = inr refl

keeps_front : (c : Counts) (xs : List Placed) (k m : ℕ) → k ≤ m → keeps_from c (take m xs) ≡ true → keeps_from c (take k xs) ≡ true
keeps_front c xs zero m less e = refl
keeps_front c xs (suc k) zero less e = absurd (omega arith)
keeps_front c [] (suc k) (suc m) less e = refl
keeps_front c (x ∷ xs) (suc k) (suc m) less e =
    let (one, more) = and_parts (is_allowed (counted c x)) (keeps_from (counted c x) (take m xs)) e in
    let rest = keeps_front (counted c x) xs k m (omega arith) more in
    rw (one, rest) refl

pub fronts_keep : IsKeptByFronts keeps_limits
fronts_keep xs k m less e = keeps_front none_counted xs k m less e

front_fits : (c : Counts) (xs : List Placed) → front c xs ≤ length xs
front_fits c [] = omega arith
front_fits c (x ∷ xs) =
    elim (one_way (is_allowed (counted c x))) [
      | inl so ↦ let h = front_fits (counted c x) xs in rw so (omega arith)
      | inr past ↦ rw past (omega arith)
    ]

front_keeps : (c : Counts) (xs : List Placed) → keeps_from c (take (front c xs) xs) ≡ true
front_keeps c [] = refl
front_keeps c (x ∷ xs) =
    elim (one_way (is_allowed (counted c x))) [
      | inl so ↦ let h = front_keeps (counted c x) xs in rw so (rw (so, h) refl)
      | inr past ↦ rw past refl
    ]

front_most : (c : Counts) (xs : List Placed) → front c xs < length xs → keeps_from c (take (suc (front c xs)) xs) ≡ true → ⊥
front_most c [] less e = absurd (omega arith)
front_most c (x ∷ xs) less e =
    elim (one_way (is_allowed (counted c x))) [
      | inl so ↦
          front_most (counted c x) xs (let h = rw so at less in omega arith) (rw so at e)
      | inr past ↦ let h = rw past at e in cc
    ]

pub front_is_longest : (xs : List Placed) (m : ℕ) → m ≡ front none_counted xs → IsLongestFront keeps_limits xs m
front_is_longest xs m e =
    rw e (record {
      fits = front_fits none_counted xs;
      allowed = front_keeps none_counted xs;
      most = λ less more. front_most none_counted xs less more;
    })

pub front_within : (xs : List Placed) (m : ℕ) → m ≡ front none_counted xs → m ≤ length xs
front_within xs m e = let h = front_fits none_counted xs in rw e h
