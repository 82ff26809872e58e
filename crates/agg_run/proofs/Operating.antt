-- What the carried folds make is what the operator makes of the cells afresh, where sums fit.
use Rattle.std.proofs.Common.{◌≡◌, ℕ, suc, ◌+◌, ◌*◌, ◌%◌, ◌^◌, ◌<◌, ◌≤◌, ℤ, pos, ◌+ℤ◌, ◌*ℤ◌, unsigned_abs, List, [], ◌∷◌, length, map, fold, Option, Some, None, refl, sym, ap, ◌∙◌, arith}
use Rattle.std.specs.Prelude.{⊤, IfSome}
use Rattle.std.specs.Option.{option_map}
use Rattle.std.specs.Int.{int_min, int_max, int_wrap, w128}
use Rattle.std.proofs.lemmas.Int.{int_wrap_fits, fits_signed_from_abs, ints}
use Rattle.aw_cell.specs.declared.cell.Kind.{Kind}
use Rattle.aw_cell.specs.declared.operator.Operator.{Operator}
use Rattle.aw_cell.specs.declared.operator.Operator.TheVariants.{Sum, Min, Max, Average, Count, Spread}
use Rattle.aw_cell.specs.Rounding.{rounded}
use Rattle.agg_run.specs.Numbers.{one_of, present, total, made_of, operated, operated_present}
use Rattle.agg_run.specs.Aggregates.{Numbers}
use Rattle.agg_run.specs.inside.Folds.{mixed, with, summed, fold_of, finished}
use Rattle.agg_run.specs.declared.folding.Fold.{Fold}
use Rattle.agg_run.proofs.Joining.{min-assoc, max-assoc}

-- each of them is at most so great
abbrev pub AreWithin : ℕ → List ℤ → Type 0
AreWithin bound [] = ⊤
AreWithin bound (z ∷ zs) = (unsigned_abs z ≤ bound) × AreWithin bound zs

abbrev added : List ℤ → ℤ
added [] = pos 0
added (z ∷ zs) = z +ℤ added zs

add_later : (a b c : ℤ) → (a +ℤ b) +ℤ c ≡ a +ℤ (b +ℤ c)
add_later a b c = omega (arith, ints)

add_zero : (a : ℤ) → a +ℤ pos 0 ≡ a
add_zero a = omega (arith, ints)

zero_add : (a : ℤ) → pos 0 +ℤ a ≡ a
zero_add a = omega (arith, ints)

abs_sum : (a b : ℤ) → unsigned_abs (a +ℤ b) ≤ unsigned_abs a + unsigned_abs b
abs_sum a b = omega (arith, ints)

fold_added : (a : ℤ) (zs : List ℤ) → fold ◌+ℤ◌ a zs ≡ a +ℤ added zs
fold_added a [] = sym (add_zero a)
fold_added a (z ∷ zs) = fold_added (a +ℤ z) zs ∙ add_later a z (added zs)

total_added : (zs : List ℤ) → total zs ≡ added zs
total_added zs = fold_added (pos 0) zs ∙ zero_add (added zs)

added_within : (bound : ℕ) (zs : List ℤ) → AreWithin bound zs → unsigned_abs (added zs) ≤ length zs * bound
added_within bound [] each = omega arith
added_within bound (z ∷ zs) each =
    let rest = added_within bound zs each.1 in
    let one = each.0 in
    let sum = abs_sum z (added zs) in
    let size : suc (length zs) * bound ≡ length zs * bound + bound = omega arith in
    omega (arith, rest, one, sum, size)

abbrev folded : Operator → List ℤ → Option Fold
folded o [] = None
folded o (z ∷ zs) = with o (Some (fold_of z)) (folded o zs)

pub summed-present : (o : Operator) (zs : List (Option ℤ)) → summed o (λ z. option_map fold_of z) zs ≡ folded o (present zs)
summed-present o [] = refl
summed-present o (None ∷ zs) = summed-present o zs
summed-present o (Some z ∷ zs) = ap (with o (Some (fold_of z))) (summed-present o zs)

one_more : (n : ℕ) → n < 2 ^ 60 → (0 + n + 1) % 2 ^ 64 ≡ suc n
one_more n few = omega (arith, few)

-- a row of numbers that are mixed by an operation
module _ (o : Operator) (number : ℤ → List ℤ → ℤ) (alone : (z : ℤ) → number z [] ≡ z) where
  folded_by : ((z y : ℤ) (zs : List ℤ) → mixed o z (number y zs) ≡ number z (y ∷ zs)) → (z : ℤ) (zs : List ℤ) → length zs < 2 ^ 60 → folded o (z ∷ zs) ≡ Some (record { others = length zs; number = number z zs })
  folded_by step z [] few = λ i. Some (record { others = 0; number = sym (alone z) i })
  folded_by step z (y ∷ zs) few =
      ap (with o (Some (fold_of z))) (folded_by step y zs (omega (arith, few)))
      ∙ (λ i. Some (record { others = one_more (length zs) (omega (arith, few)) i; number = step z y zs i }))

-- sums that fit don't wrap around
module _ (o : Operator) (bound : ℕ) (mixes : (a b : ℤ) → mixed o a b ≡ int_wrap w128 (a +ℤ b)) where
  folded_sum : (z : ℤ) (zs : List ℤ) → AreWithin bound (z ∷ zs) → length (z ∷ zs) * bound < 2 ^ 126 → length zs < 2 ^ 60 → folded o (z ∷ zs) ≡ Some (record { others = length zs; number = added (z ∷ zs) })
  folded_sum z [] each fits few = λ i. Some (record { others = 0; number = sym (add_zero z) i })
  folded_sum z (y ∷ zs) each fits few =
      let small : length (y ∷ zs) * bound < 2 ^ 126 = omega (arith, fits) in
      let within = added_within bound (z ∷ y ∷ zs) each in
      let room : unsigned_abs (added (z ∷ y ∷ zs)) < 2 ^ 127 = omega (arith, within, fits) in
      ap (with o (Some (fold_of z))) (folded_sum y zs each.1 small (omega (arith, few)))
      ∙ (λ i. Some (record { others = one_more (length zs) (omega (arith, few)) i; number = (mixes z (added (y ∷ zs)) ∙ int_wrap_fits w128 (added (z ∷ y ∷ zs)) (fits_signed_from_abs w128 (added (z ∷ y ∷ zs)) room)) i }))

first_out : (f : ℤ → ℤ → ℤ) → ((a b c : ℤ) → f (f a b) c ≡ f a (f b c)) → (a b : ℤ) (zs : List ℤ) → f a (fold f b zs) ≡ fold f (f a b) zs
first_out f assoc a b [] = refl
first_out f assoc a b (z ∷ zs) = first_out f assoc a (f b z) zs ∙ ap (λ x. fold f x zs) (sym (assoc a b z))

module _ (kind : Kind) (bound : ℕ) where
  made : (o : Operator) (z : ℤ) (zs : List ℤ) → AreWithin bound (z ∷ zs) → length (z ∷ zs) * bound < 2 ^ 126 → length zs < 2 ^ 60 → option_map (finished kind o) (folded o (z ∷ zs)) ≡ Some (made_of kind o z zs)
  made Sum z zs each fits few = ap (option_map (finished kind Sum)) (folded_sum Sum bound (λ a b. refl) z zs each fits few) ∙ ap Some (sym (total_added (z ∷ zs)))
  made Min z zs each fits few = ap (option_map (finished kind Min)) (folded_by Min (λ x xs. fold int_min x xs) (λ x. refl) (λ x y xs. first_out int_min min-assoc x y xs) z zs few)
  made Max z zs each fits few = ap (option_map (finished kind Max)) (folded_by Max (λ x xs. fold int_max x xs) (λ x. refl) (λ x y xs. first_out int_max max-assoc x y xs) z zs few)
  made Average z zs each fits few =
      let more : length zs + 1 ≡ suc (length zs) = omega arith in
      ap (option_map (finished kind Average)) (folded_sum Average bound (λ a b. refl) z zs each fits few) ∙ (λ i. Some (rounded (sym (total_added (z ∷ zs)) i) (pos (more i))))
  made Count z zs each fits few =
      let more : length zs + 1 ≡ suc (length zs) = omega arith in
      ap (option_map (finished kind Count)) (folded_sum Count bound (λ a b. refl) z zs each fits few) ∙ (λ i. Some (one_of kind *ℤ pos (more i)))
  made (Spread way) z zs each fits few = ap (option_map (finished kind (Spread way))) (folded_sum (Spread way) bound (λ a b. refl) z zs each fits few) ∙ ap Some (sym (total_added (z ∷ zs)))

  pub finished_operated : (o : Operator) (zs : List (Option ℤ)) → AreWithin bound (present zs) → length (present zs) * bound < 2 ^ 126 → length (present zs) < 2 ^ 60 →
      option_map (finished kind o) (summed o (λ z. option_map fold_of z) zs) ≡ operated kind o zs
  finished_operated o zs each fits few = ap (option_map (finished kind o)) (summed-present o zs) ∙ cases (present zs) each fits few
    where
      cases : (ps : List ℤ) → AreWithin bound ps → length ps * bound < 2 ^ 126 → length ps < 2 ^ 60 → option_map (finished kind o) (folded o ps) ≡ operated_present kind o ps
      cases [] each fits few = refl
      cases (z ∷ zs) each fits few = made o z zs each fits (omega (arith, few))

-- the numbers at some keys are no greater than all
pub present_within : (bound : ℕ) (numbers : Numbers) (key : ℕ → List ℕ) (slots : List ℕ) → ((slot : ℕ) → IfSome (numbers (key slot)) (λ z. unsigned_abs z ≤ bound)) → AreWithin bound (present (map (λ slot. numbers (key slot)) slots))
present_within bound numbers key [] each = tt
present_within bound numbers key (slot ∷ slots) each =
    elim (numbers (key slot)) as (λ n. IfSome n (λ z. unsigned_abs z ≤ bound) → AreWithin bound (present (n ∷ map (λ s. numbers (key s)) slots))) [
      | None ↦ λ _. present_within bound numbers key slots each
      | Some z ↦ λ small. (small, present_within bound numbers key slots each)
    ] (each slot)

pub present_most : (zs : List (Option ℤ)) → length (present zs) ≤ length zs
present_most [] = omega arith
present_most (None ∷ zs) = let r = present_most zs in omega (arith, r)
present_most (Some z ∷ zs) = let r = present_most zs in omega (arith, r)
