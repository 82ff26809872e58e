-- What is known of the weights and shares where the amount is shared out, and where it isn't.
use Rattle.std.proofs.Common.{◌≡◌, ◌∙◌, ◌⊎◌, ◌↔◌, inl, inr, ⊎_elim, ℕ, ◌<◌, ℤ, pos, neg_ℤ, ◌≤ℤ◌, int_le, Bool, true, false, cond, not, List, length, All, Result, Ok, Err, arith, refl, ap, sym}
use Rattle.std.specs.Ordering.{int_eq}
use Rattle.std.proofs.lemmas.Bool.{true≢false, false≢true, both_ways, and_parts, and_from}
use Rattle.std.proofs.lemmas.Bool.Decides.{Decides-int_eq}
use Rattle.std.proofs.lemmas.Int.{ints}
use Rattle.std.proofs.lemmas.List.Elements.{All-weaker}
use Rattle.std.proofs.lemmas.List.Sums.{AllPass-from_list_all, list_all-from_AllPass}
use Rattle.aw_cell.specs.declared.operator.Rest.{Rest}
use Rattle.aw_cell.specs.declared.operator.Spread.{Spread}
use Rattle.aw_cell.specs.declared.operator.Spread.TheVariants.{Even, HEven, Proportional, Copy, HCopy}
use Rattle.alloc_share.specs.declared.fault.ShareFault.{ShareFault}
use Rattle.alloc_share.specs.declared.fault.ShareFault.TheVariants.{ZeroBasis, Overflow}
use Rattle.alloc_share.specs.Shares.{total, is_within, are_within, are_weights, parts_in_all, truncated_shares, full_shares, shares_of, answered, IsWithin, AreWeights, HasZeroBasis, Overflows}

-- ---- the four tests

-- the answer as the tests choose it
abbrev pub by_tests : Bool → Bool → Bool → Bool → List ℤ → Result (List ℤ) ShareFault
by_tests a b c d shares = cond (not a) (Err Overflow) (cond b (Err ZeroBasis) (cond (not c) (Err Overflow) (cond (not d) (Err Overflow) (Ok shares))))

pub granted_by : (a b c d : Bool) (shares given : List ℤ) → by_tests a b c d shares ≡ Ok given → (a ≡ true) × (b ≡ false) × (c ≡ true) × (d ≡ true) × (given ≡ shares)
granted_by true false true true shares given e = (refl, refl, refl, refl, grind arith)
granted_by true false true false shares given e = absurd (grind arith)
granted_by true false false d shares given e = absurd (grind arith)
granted_by true true c d shares given e = absurd (grind arith)
granted_by false b c d shares given e = absurd (grind arith)

zero_by : (a b c d : Bool) (shares : List ℤ) → (answered (by_tests a b c d shares) ≡ Err ZeroBasis) ↔ ((a ≡ true) × (b ≡ true))
zero_by true true c d shares = (λ e. (refl, refl), λ p. refl)
zero_by true false true true shares = (λ e. absurd (grind arith), λ p. absurd (false≢true p.1))
zero_by true false true false shares = (λ e. absurd (grind arith), λ p. absurd (false≢true p.1))
zero_by true false false d shares = (λ e. absurd (grind arith), λ p. absurd (false≢true p.1))
zero_by false b c d shares = (λ e. absurd (grind arith), λ p. absurd (false≢true p.0))

overflow_by : (a b c d : Bool) (shares : List ℤ) → (answered (by_tests a b c d shares) ≡ Err Overflow) ↔ ((a ≡ false) ⊎ ((a ≡ true) × (b ≡ false) × ((c ≡ true) × (d ≡ true) → ⊥)))
overflow_by false b c d shares = (λ e. inl refl, λ p. refl)
overflow_by true true c d shares = (λ e. absurd (grind arith), λ p. absurd (⊎_elim (λ h. true≢false h) (λ h. true≢false h.1) p))
overflow_by true false false d shares = (λ e. inr (refl, refl, λ h. false≢true h.0), λ p. refl)
overflow_by true false true false shares = (λ e. inr (refl, refl, λ h. false≢true h.1), λ p. refl)
overflow_by true false true true shares = (λ e. absurd (grind arith), λ p. absurd (⊎_elim (λ h. true≢false h) (λ h. h.2 (refl, refl)) p))

-- ---- each test in words

is_least : (a b : ℤ) → int_le a b ≡ true → a ≤ℤ b
is_least a b e = grind (arith, ints)

tested_least : (a b : ℤ) → a ≤ℤ b → int_le a b ≡ true
tested_least a b h = grind (arith, ints)

pub within_is : (most x : ℤ) → is_within most x ≡ true → IsWithin most x
within_is most x h =
    let parts = and_parts (int_le (neg_ℤ most) x) (int_le x most) h in
    (is_least (neg_ℤ most) x parts.0, is_least x most parts.1)

within_from : (most x : ℤ) → IsWithin most x → is_within most x ≡ true
within_from most x h = and_from (int_le (neg_ℤ most) x) (int_le x most) (tested_least (neg_ℤ most) x h.0) (tested_least x most h.1)

pub all_within : (most : ℤ) (xs : List ℤ) → are_within most xs ≡ true → All (IsWithin most) xs
all_within most xs h = All-weaker (λ x. is_within most x ≡ true) (IsWithin most) (within_is most) xs (AllPass-from_list_all (is_within most) xs h)

from_all : (most : ℤ) (xs : List ℤ) → All (IsWithin most) xs → are_within most xs ≡ true
from_all most xs h = list_all-from_AllPass (is_within most) xs (All-weaker (IsWithin most) (λ x. is_within most x ≡ true) (within_from most) xs h)

counted : (n : ℕ) → 0 < n → int_eq (pos n) (pos 0) ≡ true → ⊥
counted n h e = let same : pos n ≡ pos 0 = (Decides-int_eq (pos n) (pos 0)).0 e in omega (arith, ints)

basis_is : (how : Spread) (weights : List ℤ) → 0 < length weights → int_eq (parts_in_all how weights) (pos 0) ≡ true → (how ≡ Proportional) × (total weights ≡ pos 0)
basis_is Even weights h e = absurd (counted (length weights) h e)
basis_is HEven weights h e = absurd (counted (length weights) h e)
basis_is Proportional weights h e = (refl, (Decides-int_eq (total weights) (pos 0)).0 e)
basis_is Copy weights h e = absurd (counted 1 (omega arith) e)
basis_is HCopy weights h e = absurd (counted 1 (omega arith) e)

basis_from : (how : Spread) (weights : List ℤ) → how ≡ Proportional → total weights ≡ pos 0 → int_eq (parts_in_all how weights) (pos 0) ≡ true
basis_from how weights e z = ap (λ h. int_eq (parts_in_all h weights) (pos 0)) e ∙ (Decides-int_eq (total weights) (pos 0)).1 z

refused : (b : Bool) → (b ≡ true → ⊥) → b ≡ false
refused true h = absurd (h refl)
refused false h = refl

-- ---- the refusals

pub zero_is : (how : Spread) (rest : Rest) (amount : ℤ) (weights : List ℤ) (most : ℤ) → 0 < length weights → (answered (shares_of how rest amount weights most) ≡ Err ZeroBasis) ↔ HasZeroBasis how weights
zero_is how rest amount weights most h =
    let told = zero_by (are_weights weights) (int_eq (parts_in_all how weights) (pos 0)) (are_within most (truncated_shares how amount weights)) (are_within most (full_shares how rest amount weights)) (full_shares how rest amount weights) in (
      λ e. let p = told.0 e in let q = basis_is how weights h p.1 in (all_within (pos 999999999999999999) weights p.0, q.0, q.1),
      λ p. told.1 (from_all (pos 999999999999999999) weights p.0, basis_from how weights p.1 p.2),
    )

pub overflow_is : (how : Spread) (rest : Rest) (amount : ℤ) (weights : List ℤ) (most : ℤ) → 0 < length weights → (answered (shares_of how rest amount weights most) ≡ Err Overflow) ↔ Overflows how rest amount weights most
overflow_is how rest amount weights most h =
    let a : Bool = are_weights weights in
    let b : Bool = int_eq (parts_in_all how weights) (pos 0) in
    let c : Bool = are_within most (truncated_shares how amount weights) in
    let d : Bool = are_within most (full_shares how rest amount weights) in
    let told = overflow_by a b c d (full_shares how rest amount weights) in
    let weights_in : AreWeights weights → a ≡ true = from_all (pos 999999999999999999) weights in
    let forward : (a ≡ false) ⊎ ((a ≡ true) × (b ≡ false) × ((c ≡ true) × (d ≡ true) → ⊥)) → Overflows how rest amount weights most =
    ⊎_elim (λ e. inl (λ all. both_ways a e (weights_in all)))
    (λ p. inr (all_within (pos 999999999999999999) weights p.0, λ z. both_ways b p.1 (basis_from how weights z.1 z.2), λ s. p.2 (from_all most (truncated_shares how amount weights) s.0, from_all most (full_shares how rest amount weights) s.1))) in
    let backward : Overflows how rest amount weights most → (a ≡ false) ⊎ ((a ≡ true) × (b ≡ false) × ((c ≡ true) × (d ≡ true) → ⊥)) =
    ⊎_elim (λ no. inl (refused a (λ e. no (all_within (pos 999999999999999999) weights e))))
    (λ p. inr (weights_in p.0, refused b (λ e. let q = basis_is how weights h e in p.1 (p.0, q.0, q.1)), λ both. p.2 (all_within most (truncated_shares how amount weights) both.0, all_within most (full_shares how rest amount weights) both.1))) in
    (λ e. forward (told.0 e), λ o. told.1 (backward o))

-- what an answer says, of a result that is it
pub told_by : {P : Type 0} (fault : ShareFault) (result answer : Result Unit ShareFault) → result ≡ answer → (answer ≡ Err fault) ↔ P → (result ≡ Err fault) ↔ P
told_by fault result answer e h = (λ r. h.0 (sym e ∙ r), λ p. e ∙ h.1 p)
