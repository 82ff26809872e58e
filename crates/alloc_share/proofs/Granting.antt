-- What is answered once the sum of the truncated shares and the one full share are known.
use Rattle.std.proofs.Common.{◌≡◌, ◌≢◌, FitsSigned, to_z, of_z, w64, ◌∙◌, ℕ, ◌<◌, ℤ, pos, ◌+ℤ◌, Bool, true, false, cond, not, List, length, set, get_or, Result, Ok, Err, Some, arith, refl, ap, sym}
use mir.Syntax.{w128}
use Rattle.std.specs.Ordering.{int_eq}
use Rattle.std.proofs.lemmas.Bool.{true≢false, false≢true}
use Rattle.std.proofs.lemmas.Bool.Decides.{Decides-int_eq}
use Rattle.std.proofs.lemmas.Int.{to_z-of_z}
use Rattle.std.proofs.lemmas.List.Elements.{All-weaker}
use Rattle.std.proofs.lemmas.List.Sums.{AllPass-from_list_all, list_all-from_AllPass}
use Rattle.std.proofs.lemmas.List.{get_or-map, length-map, length-set, get_or-set_same}
use Rattle.std.proofs.lemmas.List.Folds.{list_all_at}
use Rattle.std.proofs.lemmas.List.Recursion.{and_set}
use Rattle.aw_cell.specs.declared.operator.Rest.{Rest}
use Rattle.aw_cell.specs.declared.operator.Spread.{Spread}
use Rattle.alloc_share.specs.declared.fault.ShareFault.{ShareFault}
use Rattle.alloc_share.specs.declared.fault.ShareFault.TheVariants.{ZeroBasis, Overflow}
use Rattle.alloc_share.specs.Places.{place_of_rest}
use Rattle.alloc_share.specs.Shares.{total, is_within, are_within, are_weights, parts_of, parts_in_all, truncated, shares_by, truncated_shares, remainder, raised, full_shares, shares_of}
use Rattle.alloc_share.specs.inside.Sums.{sum_within, remainder_of}
use Rattle.alloc_share.proofs.Sizes.{within_words}
use Rattle.alloc_share.proofs.Within.{sum_parts}

pub full_is : (how : Spread) (rest : Rest) (amount : ℤ) (weights : List ℤ) (sum full : ℤ) (place : ℕ) → place < length weights → place ≡ place_of_rest rest weights
    → total (truncated_shares how amount weights) ≡ sum
    → full ≡ truncated amount (parts_of how (get_or weights place (pos 0))) (parts_in_all how weights) +ℤ remainder_of how amount sum
    → full_shares how rest amount weights ≡ set (truncated_shares how amount weights) place full
full_is how rest amount weights sum full place there at adds is =
    let share : ℤ → ℤ = λ weight. truncated amount (parts_of how weight) (parts_in_all how weights) in
    let shares : List ℤ = truncated_shares how amount weights in
    ap (λ k. raised (remainder how amount weights) k shares) (sym at)
    ∙ ap (λ z. set shares place (z +ℤ remainder how amount weights)) (get_or-map share weights place (pos 0) (pos 0) there)
    ∙ ap (λ s. set shares place (share (get_or weights place (pos 0)) +ℤ remainder_of how amount s)) adds
    ∙ ap (set shares place) (sym is)

within_set_by : (most : ℤ) (shares : List ℤ) (place : ℕ) (full : ℤ) (b : Bool) → is_within most full ≡ b → place < length shares → are_within most shares ≡ true → are_within most (set shares place full) ≡ b
within_set_by most shares place full true e there all = and_set (are_within most) (is_within most) refl (λ _ _. refl) shares place full e all
within_set_by most shares place full false e there all =
    list_all_at (is_within most) (set shares place full) place (pos 0) (omega (arith, there, length-set shares place full)) (ap (is_within most) (get_or-set_same shares place full (pos 0) there) ∙ e)

chosen : {X : Type 0} (a b c d : Bool) (u v w x y : X) → a ≡ true → b ≡ false → c ≡ true → cond (not a) u (cond b v (cond (not c) w (cond (not d) x y))) ≡ cond (not d) x y
chosen true false true d u v w x y e f g = refl
chosen true false false d u v w x y e f g = absurd (false≢true g)
chosen true true c d u v w x y e f g = absurd (true≢false f)
chosen false b c d u v w x y e f g = absurd (false≢true e)

-- what is known behind the tests
pub record Stands (how : Spread) (rest : Rest) (amount : ℤ) (weights : List ℤ) (most : ℤ) (place : ℕ) (full : ℤ) : Type 0 where
  pub weights_fit : are_weights weights ≡ true
  pub basis : int_eq (parts_in_all how weights) (pos 0) ≡ false
  pub within : are_within most (truncated_shares how amount weights) ≡ true
  pub there : place < length weights
  pub is : full_shares how rest amount weights ≡ set (truncated_shares how amount weights) place full

pub stands : (how : Spread) (rest : Rest) (amount : ℤ) (weights : List ℤ) (most sum full : ℤ) (place : ℕ) → are_weights weights ≡ true → int_eq (parts_in_all how weights) (pos 0) ≡ false
    → sum_within most (truncated_shares how amount weights) ≡ Some sum → place < length weights → place ≡ place_of_rest rest weights
    → full ≡ truncated amount (parts_of how (get_or weights place (pos 0))) (parts_in_all how weights) +ℤ remainder_of how amount sum
    → Stands how rest amount weights most place full
stands how rest amount weights most sum full place fit basis summed there at is =
    let parts = sum_parts most (truncated_shares how amount weights) sum summed in
    record { weights_fit = fit; basis = basis; within = parts.0; there = there; is = full_is how rest amount weights sum full place there at parts.1 is }

pub decided : (how : Spread) (rest : Rest) (amount : ℤ) (weights : List ℤ) (most full : ℤ) (place : ℕ) (b : Bool) → Stands how rest amount weights most place full → is_within most full ≡ b
    → shares_of how rest amount weights most ≡ cond (not b) (Err Overflow) (Ok (set (truncated_shares how amount weights) place full))
decided how rest amount weights most full place b s e =
    let shares : List ℤ = truncated_shares how amount weights in
    let refused : Result (List ℤ) ShareFault = Err Overflow in
    let zero_basis : Result (List ℤ) ShareFault = Err ZeroBasis in
    let granted : Result (List ℤ) ShareFault = Ok (full_shares how rest amount weights) in
    let choice : Bool → List ℤ → Result (List ℤ) ShareFault = λ c xs. cond (not c) refused (Ok xs) in
    let long : place < length shares = omega (arith, s.there, length-map weights (λ weight. truncated amount (parts_of how weight) (parts_in_all how weights))) in
    chosen (are_weights weights) (int_eq (parts_in_all how weights) (pos 0)) (are_within most shares) (are_within most (full_shares how rest amount weights)) refused zero_basis refused refused granted s.weights_fit s.basis s.within
    ∙ ap (λ xs. choice (are_within most xs) xs) s.is
    ∙ ap (λ c. choice c (set shares place full)) (within_set_by most shares place full b e long s.within)

refused : (b : Bool) → b ≢ true → b ≡ false
refused true h = absurd (h refl)
refused false h = refl

pub not_zero : (z : ℤ) → z ≢ pos 0 → int_eq z (pos 0) ≡ false
not_zero z h = refused (int_eq z (pos 0)) (λ e. h ((Decides-int_eq z (pos 0)).0 e))

-- the same from what the code knows, whose numbers are words
pub stands_coded : (how : Spread) (rest : Rest) (amount : ℤ) (weights : List ℤ) (most all_parts sum full : ℤ) (place : ℕ) → FitsSigned w64 amount → FitsSigned w64 most → FitsSigned w128 all_parts → FitsSigned w128 sum
    → are_weights weights ≡ true → all_parts ≡ parts_in_all how weights → (of_z w128 all_parts ≡ 0 → ⊥)
    → Some sum ≡ sum_within (to_z w64 (of_z w64 most)) (shares_by how (to_z w64 (of_z w64 amount)) (to_z w128 (of_z w128 all_parts)) weights)
    → place ≡ place_of_rest rest weights → place < length weights
    → full ≡ truncated (to_z w64 (of_z w64 amount)) (parts_of how (get_or weights place (pos 0))) (to_z w128 (of_z w128 all_parts)) +ℤ remainder_of how (to_z w64 (of_z w64 amount)) (to_z w128 (of_z w128 sum))
    → Stands how rest amount weights most place full
stands_coded how rest amount weights most all_parts sum full place f g h i fit is_all nonzero summed at there is_full =
    let few : to_z w64 (of_z w64 amount) ≡ amount = to_z-of_z w64 amount f in
    let limit : to_z w64 (of_z w64 most) ≡ most = to_z-of_z w64 most g in
    let all : to_z w128 (of_z w128 all_parts) ≡ parts_in_all how weights = to_z-of_z w128 all_parts h ∙ is_all in
    let adds : to_z w128 (of_z w128 sum) ≡ sum = to_z-of_z w128 sum i in
    let whole : sum_within most (truncated_shares how amount weights) ≡ Some sum =
    ap (λ z. sum_within z (truncated_shares how amount weights)) (sym limit)
    ∙ ap (λ z. sum_within (to_z w64 (of_z w64 most)) (shares_by how z (parts_in_all how weights) weights)) (sym few)
    ∙ ap (λ z. sum_within (to_z w64 (of_z w64 most)) (shares_by how (to_z w64 (of_z w64 amount)) z weights)) (sym all) ∙ sym summed in
    let is : full ≡ truncated amount (parts_of how (get_or weights place (pos 0))) (parts_in_all how weights) +ℤ remainder_of how amount sum =
    is_full
    ∙ ap (λ z. truncated z (parts_of how (get_or weights place (pos 0))) (to_z w128 (of_z w128 all_parts)) +ℤ remainder_of how z (to_z w128 (of_z w128 sum))) few
    ∙ ap (λ z. truncated amount (parts_of how (get_or weights place (pos 0))) z +ℤ remainder_of how amount (to_z w128 (of_z w128 sum))) all
    ∙ ap (λ z. truncated amount (parts_of how (get_or weights place (pos 0))) (parts_in_all how weights) +ℤ remainder_of how amount z) adds in
    let basis : parts_in_all how weights ≢ pos 0 = λ e. nonzero (ap (of_z w128) (is_all ∙ e)) in
    stands how rest amount weights most sum full place fit (not_zero (parts_in_all how weights) basis) whole there at is

-- shares within a limit of 64 bits fit them
pub fit_words : (most : ℤ) (shares : List ℤ) → FitsSigned w64 most → are_within most shares ≡ true → are_within (pos 9223372036854775807) shares ≡ true
fit_words most shares f h =
    list_all-from_AllPass (is_within (pos 9223372036854775807)) shares
    (All-weaker (λ x. is_within most x ≡ true) (λ x. is_within (pos 9223372036854775807) x ≡ true) (λ x e. within_words most x f e) shares (AllPass-from_list_all (is_within most) shares h))

pub summed_fit : (most : ℤ) (shares : List ℤ) (sum : ℤ) → FitsSigned w64 most → Some sum ≡ sum_within (to_z w64 (of_z w64 most)) shares → are_within (pos 9223372036854775807) shares ≡ true
summed_fit most shares sum f e =
    fit_words most shares f ((sum_parts most shares sum (ap (λ z. sum_within z shares) (sym (to_z-of_z w64 most f)) ∙ sym e)).0)

pub within_coded : (most full : ℤ) (result b : Bool) → FitsSigned w64 most → FitsSigned w128 full → result ≡ is_within (to_z w64 (of_z w64 most)) (to_z w128 (of_z w128 full)) → result ≡ b → is_within most full ≡ b
within_coded most full result b f g e told =
    ap (λ z. is_within z full) (sym (to_z-of_z w64 most f)) ∙ ap (λ z. is_within (to_z w64 (of_z w64 most)) z) (sym (to_z-of_z w128 full g)) ∙ sym e ∙ told

pub raised_coded : (how : Spread) (amount : ℤ) (weights written : List ℤ) (most all_parts full : ℤ) (place : ℕ) → FitsSigned w64 amount → FitsSigned w128 all_parts → FitsSigned w128 full → FitsSigned w64 full
    → all_parts ≡ parts_in_all how weights → written ≡ shares_by how (to_z w64 (of_z w64 amount)) (to_z w128 (of_z w128 all_parts)) weights
    → set written place (to_z w64 (of_z w64 (to_z w128 (of_z w128 full)))) ≡ set (truncated_shares how amount weights) place full
raised_coded how amount weights written most all_parts full place f h g k is_all e =
    ap (λ xs. set xs place (to_z w64 (of_z w64 (to_z w128 (of_z w128 full))))) (e
    ∙ ap (λ z. shares_by how z (to_z w128 (of_z w128 all_parts)) weights) (to_z-of_z w64 amount f)
    ∙ ap (λ z. shares_by how amount z weights) (to_z-of_z w128 all_parts h ∙ is_all))
    ∙ ap (λ z. set (truncated_shares how amount weights) place (to_z w64 (of_z w64 z))) (to_z-of_z w128 full g)
    ∙ ap (set (truncated_shares how amount weights) place) (to_z-of_z w64 full k)
