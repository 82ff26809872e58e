-- The laws on shares.
use Rattle.std.proofs.Common.{◌≡◌, ◌≢◌, ◌∙◌, ℕ, zero, suc, ◌*◌, ◌/◌, ◌<◌, ◌≤◌, ℤ, pos, negsuc, neg_ℤ, ◌+ℤ◌, ◌-ℤ◌, ◌*ℤ◌, int_div, int_rem, unsigned_abs, true, false, cond, List, [], ◌∷◌, length, map, set, get_or, replicate, Ok, arith, refl, ap, sym, subst}
use Rattle.std.specs.Ordering.{int_eq}
use Rattle.std.proofs.Math.Nat.{div-one, div-mul-le_self}
use Rattle.std.proofs.lemmas.Bool.{true≢false}
use Rattle.std.proofs.lemmas.Int.{ints, quot-rem, rem_below, unsigned_abs-mul}
use Rattle.std.proofs.lemmas.List.{get_or-map, length-map, length-set, get_or-set_other, set-get_or}
use Rattle.aw_cell.specs.declared.operator.Rest.{Rest}
use Rattle.aw_cell.specs.declared.operator.Rest.TheVariants.{First, Last, Min, Max}
use Rattle.aw_cell.specs.declared.operator.Spread.{Spread}
use Rattle.aw_cell.specs.declared.operator.Spread.TheVariants.{Even, HEven, Proportional, Copy, HCopy}
use Rattle.alloc_share.specs.Places.{place_of_rest}
use Rattle.alloc_share.specs.Shares.{total, are_within, are_weights, parts_of, parts_in_all, truncated, truncated_shares, adds_up, remainder, full_shares, shares_of}
use Rattle.alloc_share.specs.Laws.{IsCutOff, IsShare, IsPlaceOfRest, SharesAddUp, OneShareDiffers, CopiesAreWhole, AllInRange}
use Rattle.alloc_share.proofs.FirstBest.{first_least_is, first_greatest_is, place_there}
use Rattle.alloc_share.proofs.Granted.{granted_by, all_within}
use Rattle.alloc_share.proofs.Sizes.{abs_neg, truncated_is}
use Rattle.alloc_share.proofs.Totals.{total-raised}

pub record Granted (how : Spread) (rest : Rest) (amount : ℤ) (weights : List ℤ) (most : ℤ) (shares : List ℤ) : Type 0 where
  pub weights_fit : are_weights weights ≡ true
  pub basis : int_eq (parts_in_all how weights) (pos 0) ≡ false
  pub before : are_within most (truncated_shares how amount weights) ≡ true
  pub after : are_within most (full_shares how rest amount weights) ≡ true
  pub are : shares ≡ full_shares how rest amount weights

pub granted : (how : Spread) (rest : Rest) (amount : ℤ) (weights : List ℤ) (most : ℤ) (shares : List ℤ) → shares_of how rest amount weights most ≡ Ok shares → Granted how rest amount weights most shares
granted how rest amount weights most shares e =
    let p = granted_by (are_weights weights) (int_eq (parts_in_all how weights) (pos 0)) (are_within most (truncated_shares how amount weights)) (are_within most (full_shares how rest amount weights)) (full_shares how rest amount weights) shares e in
    record { weights_fit = p.0; basis = p.1; before = p.2; after = p.3; are = p.4 }

pub length_shares : (how : Spread) (amount : ℤ) (weights : List ℤ) → length (truncated_shares how amount weights) ≡ length weights
length_shares how amount weights = length-map weights (λ weight. truncated amount (parts_of how weight) (parts_in_all how weights))

-- ---- they add up

full_adds : (how : Spread) (rest : Rest) (amount : ℤ) (weights : List ℤ) → 0 < length weights → total (full_shares how rest amount weights) ≡ total (truncated_shares how amount weights) +ℤ remainder how amount weights
full_adds how rest amount weights h =
    total-raised (truncated_shares how amount weights) (place_of_rest rest weights) (remainder how amount weights)
    (omega (arith, length_shares how amount weights, place_there rest weights h))

back : (a b : ℤ) → a +ℤ (b -ℤ a) ≡ b
back a b = omega (arith, ints)

adds_to : (how : Spread) (rest : Rest) (amount : ℤ) (weights shares : List ℤ) (most : ℤ) → 0 < length weights → shares_of how rest amount weights most ≡ Ok shares → adds_up how ≡ true → total shares ≡ amount
adds_to how rest amount weights shares most h e adds =
    let g = granted how rest amount weights most shares e in
    let rest_is : remainder how amount weights ≡ amount -ℤ total (truncated_shares how amount weights) = ap (λ b. cond b (amount -ℤ total (truncated_shares how amount weights)) (pos 0)) adds in
    let sum : total shares ≡ total (truncated_shares how amount weights) +ℤ remainder how amount weights = ap total g.are ∙ full_adds how rest amount weights h in
    let all : ℤ = total (truncated_shares how amount weights) in
    let sum' : total shares ≡ all +ℤ (amount -ℤ all) = sum ∙ ap (λ z. all +ℤ z) rest_is in
    sum' ∙ back all amount

pub shares_add_up : SharesAddUp
shares_add_up Even rest amount weights most shares h e no_copy no_hcopy = adds_to Even rest amount weights shares most h e refl
shares_add_up HEven rest amount weights most shares h e no_copy no_hcopy = adds_to HEven rest amount weights shares most h e refl
shares_add_up Proportional rest amount weights most shares h e no_copy no_hcopy = adds_to Proportional rest amount weights shares most h e refl
shares_add_up Copy rest amount weights most shares h e no_copy no_hcopy = absurd (no_copy refl)
shares_add_up HCopy rest amount weights most shares h e no_copy no_hcopy = absurd (no_hcopy refl)

-- ---- the quotient, cut off

abs_quotient : (a d : ℤ) → unsigned_abs (int_div a d) ≡ unsigned_abs a / unsigned_abs d
abs_quotient (pos a) (pos b) = refl
abs_quotient (pos a) (negsuc b) = abs_neg (a / suc b)
abs_quotient (negsuc a) (pos b) = abs_neg (suc a / b)
abs_quotient (negsuc a) (negsuc b) = refl

pub nonzero_size : (d : ℤ) → d ≢ pos 0 → 0 < unsigned_abs d
nonzero_size (pos zero) h = absurd (h refl)
nonzero_size (pos (suc n)) h = omega arith
nonzero_size (negsuc n) h = omega arith

left_over : (a q r : ℤ) → q +ℤ r ≡ a → a -ℤ q ≡ r
left_over a q r e = omega (arith, ints, e)

pub cut_off : (dividend divisor : ℤ) → divisor ≢ pos 0 → IsCutOff dividend divisor (int_div dividend divisor)
cut_off dividend divisor h =
    let P : ℤ → Type 0 = λ z. unsigned_abs z < unsigned_abs divisor in
    let off : dividend -ℤ int_div dividend divisor *ℤ divisor ≡ int_rem dividend divisor = left_over dividend (int_div dividend divisor *ℤ divisor) (int_rem dividend divisor) (quot-rem dividend divisor) in
    let size : unsigned_abs (int_div dividend divisor *ℤ divisor) ≡ unsigned_abs dividend / unsigned_abs divisor * unsigned_abs divisor =
    unsigned_abs-mul (int_div dividend divisor) divisor ∙ ap (λ n. n * unsigned_abs divisor) (abs_quotient dividend divisor) in
    record {
      near = subst P (sym off) (rem_below dividend divisor (nonzero_size divisor h));
      toward_zero = subst (λ n. n ≤ unsigned_abs dividend) (sym size) (div-mul-le_self (unsigned_abs dividend) (unsigned_abs divisor));
    }

times_one : (a : ℤ) → a *ℤ pos 1 ≡ a
times_one (pos a) = omega (arith, ints)
times_one (negsuc a) = omega (arith, ints)

by_one : (a : ℤ) → int_div a (pos 1) ≡ a
by_one (pos a) = ap pos (div-one a)
by_one (negsuc a) = ap (λ n. neg_ℤ (pos n)) (div-one (suc a))

pub one_part : (amount all_parts : ℤ) → truncated amount (pos 1) all_parts ≡ int_div amount all_parts
one_part amount all_parts = sym (truncated_is amount (pos 1) all_parts) ∙ ap (λ z. int_div z all_parts) (times_one amount)

pub whole : (amount : ℤ) → truncated amount (pos 1) (pos 1) ≡ amount
whole amount = one_part amount (pos 1) ∙ by_one amount

counted : (n : ℕ) → 0 < n → pos n ≢ pos 0
counted n h e = omega (arith, ints)

not_zero : (z : ℤ) → int_eq z (pos 0) ≡ false → z ≢ pos 0
not_zero z h e = true≢false (sym (ap (λ x. int_eq x (pos 0)) e) ∙ h)

-- ---- each share but one

is_share : (how : Spread) (amount : ℤ) (weights : List ℤ) (weight : ℤ) → 0 < length weights → int_eq (parts_in_all how weights) (pos 0) ≡ false
    → IsShare how amount weights weight (truncated amount (parts_of how weight) (parts_in_all how weights))
is_share Even amount weights weight h b = subst (λ z. IsCutOff amount (pos (length weights)) z) (sym (one_part amount (pos (length weights)))) (cut_off amount (pos (length weights)) (counted (length weights) h))
is_share HEven amount weights weight h b = subst (λ z. IsCutOff amount (pos (length weights)) z) (sym (one_part amount (pos (length weights)))) (cut_off amount (pos (length weights)) (counted (length weights) h))
is_share Proportional amount weights weight h b = subst (λ z. IsCutOff (amount *ℤ weight) (total weights) z) (truncated_is amount weight (total weights)) (cut_off (amount *ℤ weight) (total weights) (not_zero (total weights) b))
is_share Copy amount weights weight h b = whole amount
is_share HCopy amount weights weight h b = whole amount

place_is : (rest : Rest) (weights : List ℤ) → 0 < length weights → IsPlaceOfRest rest weights (place_of_rest rest weights)
place_is First weights h = refl
place_is Last weights h = omega arith
place_is Min weights h = first_least_is weights h
place_is Max weights h = first_greatest_is weights h

pub one_share_differs : OneShareDiffers
one_share_differs how rest amount weights most shares h e =
    let g = granted how rest amount weights most shares e in
    let place : ℕ = place_of_rest rest weights in
    let part : ℤ → ℤ = λ weight. truncated amount (parts_of how weight) (parts_in_all how weights) in
    let cut : List ℤ = truncated_shares how amount weights in
    let full : ℤ = get_or cut place (pos 0) +ℤ remainder how amount weights in
    let long : length shares ≡ length weights = ap length g.are ∙ length-set cut place full ∙ length_shares how amount weights in
    let each : (k : ℕ) → k < length weights → k ≢ place → IsShare how amount weights (get_or weights k (pos 0)) (get_or shares k (pos 0)) =
    λ k there apart.
    let same : get_or shares k (pos 0) ≡ part (get_or weights k (pos 0)) =
    ap (λ xs. get_or xs k (pos 0)) g.are ∙ get_or-set_other cut place k full (pos 0) apart ∙ get_or-map part weights k (pos 0) (pos 0) there in
    subst (λ z. IsShare how amount weights (get_or weights k (pos 0)) z) (sym same) (is_share how amount weights (get_or weights k (pos 0)) h g.basis) in
    (long, (place, place_there rest weights h, place_is rest weights h, each))

-- ---- copies

copied : (share : ℤ → ℤ) (amount : ℤ) → ((weight : ℤ) → share weight ≡ amount) → (weights : List ℤ) → map share weights ≡ replicate (length weights) amount
copied share amount same [] = refl
copied share amount same (w ∷ ws) = ap (λ x. x ∷ map share ws) (same w) ∙ ap (λ xs. amount ∷ xs) (copied share amount same ws)

nothing : (z : ℤ) → z +ℤ pos 0 ≡ z
nothing z = omega (arith, ints)

unraised : (shares : List ℤ) (place : ℕ) → set shares place (get_or shares place (pos 0) +ℤ pos 0) ≡ shares
unraised shares place = ap (set shares place) (nothing (get_or shares place (pos 0))) ∙ set-get_or shares place (pos 0)

pub copies_are_whole : CopiesAreWhole
copies_are_whole = record {
  copy = λ how rest amount weights most shares h e is.
      let at : shares_of Copy rest amount weights most ≡ Ok shares = subst (λ x. shares_of x rest amount weights most ≡ Ok shares) is e in
      (granted Copy rest amount weights most shares at).are ∙ unraised (truncated_shares Copy amount weights) (place_of_rest rest weights)
      ∙ copied (λ weight. truncated amount (pos 1) (pos 1)) amount (λ weight. whole amount) weights;
  hcopy = λ how rest amount weights most shares h e is.
      let at : shares_of HCopy rest amount weights most ≡ Ok shares = subst (λ x. shares_of x rest amount weights most ≡ Ok shares) is e in
      (granted HCopy rest amount weights most shares at).are ∙ unraised (truncated_shares HCopy amount weights) (place_of_rest rest weights)
      ∙ copied (λ weight. truncated amount (pos 1) (pos 1)) amount (λ weight. whole amount) weights;
}

-- ---- ranges

pub all_in_range : AllInRange
all_in_range how rest amount weights most shares h e =
    let g = granted how rest amount weights most shares e in
    (all_within (pos 999999999999999999) weights g.weights_fit, all_within most shares (ap (are_within most) g.are ∙ g.after))
