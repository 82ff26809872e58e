-- The share of each candidate in an amount. Numbers are whole and without bound.
use Rattle.std.specs.Prelude.{ℕ, ℤ, pos, neg_ℤ, true, false, ◌+ℤ◌, ◌-ℤ◌, ◌*ℤ◌, ◌≤ℤ◌, ◌≡◌, ◌⊎◌, All, int_le, int_div, Bool, ◌&&◌, not, cond, List, length, map, fold, slice_set, slice_index_or, Result, Ok, Err}
use Rattle.std.specs.Ordering.{int_eq}
use Rattle.std.specs.List.{list_all}
use Rattle.aw_cell.specs.declared.operator.Rest.{Rest}
use Rattle.aw_cell.specs.declared.operator.Spread.{Spread}
use Rattle.aw_cell.specs.declared.operator.Spread.TheVariants.{Even, HEven, Proportional, Copy, HCopy}
use Rattle.alloc_share.specs.declared.fault.ShareFault.{ShareFault}
use Rattle.alloc_share.specs.declared.fault.ShareFault.TheVariants.{ZeroBasis, Overflow}
use Rattle.alloc_share.specs.Places.{place_of_rest}

abbrev pub total : List ℤ → ℤ
total numbers = fold ◌+ℤ◌ (pos 0) numbers

-- ---- ranges

-- whether the number is from -most to most
abbrev pub is_within : ℤ → ℤ → Bool
is_within most number = int_le (neg_ℤ most) number && int_le number most

-- a weight has eighteen digits at most
abbrev pub is_weight : ℤ → Bool
is_weight weight = is_within (pos 999999999999999999) weight

-- ---- the shares before the remainder

-- how many parts the amount has: one for each candidate, or as many as all weights say, or one in all
abbrev pub parts_in_all : Spread → List ℤ → ℤ
parts_in_all Even weights = pos (length weights)
parts_in_all HEven weights = pos (length weights)
parts_in_all Proportional weights = total weights
parts_in_all Copy weights = pos 1
parts_in_all HCopy weights = pos 1

-- how many of them a candidate gets
abbrev pub parts_of : Spread → ℤ → ℤ
parts_of Even weight = pos 1
parts_of HEven weight = pos 1
parts_of Proportional weight = weight
parts_of Copy weight = pos 1
parts_of HCopy weight = pos 1

-- so many parts of the amount, where it has so many in all: the quotient is cut off toward zero
unfoldable pub truncated : ℤ → ℤ → ℤ → ℤ
truncated amount parts all_parts = int_div (amount *ℤ parts) all_parts

-- each candidate's share, where the amount has so many parts in all
abbrev pub shares_by : Spread → ℤ → ℤ → List ℤ → List ℤ
shares_by how amount all_parts weights = map (λ weight. truncated amount (parts_of how weight) all_parts) weights

abbrev pub truncated_shares : Spread → ℤ → List ℤ → List ℤ
truncated_shares how amount weights = shares_by how amount (parts_in_all how weights) weights

-- ---- the remainder

-- whether the shares are to add up to the amount
abbrev pub adds_up : Spread → Bool
adds_up Even = true
adds_up HEven = true
adds_up Proportional = true
adds_up Copy = false
adds_up HCopy = false

-- what the truncated shares leave of the amount
abbrev pub remainder : Spread → ℤ → List ℤ → ℤ
remainder how amount weights = cond (adds_up how) (amount -ℤ total (truncated_shares how amount weights)) (pos 0)

-- one share more by so much
abbrev pub raised : ℤ → ℕ → List ℤ → List ℤ
raised more place shares = slice_set shares place (slice_index_or shares place (pos 0) +ℤ more)

-- the whole remainder goes to one candidate
abbrev pub full_shares : Spread → Rest → ℤ → List ℤ → List ℤ
full_shares how rest amount weights = raised (remainder how amount weights) (place_of_rest rest weights) (truncated_shares how amount weights)

-- ---- the answer

abbrev pub are_weights : List ℤ → Bool
are_weights weights = list_all is_weight weights

abbrev pub are_within : ℤ → List ℤ → Bool
are_within most numbers = list_all (is_within most) numbers

-- the shares, whose range is asked before the remainder and after it, or the first fault
abbrev pub shares_of : Spread → Rest → ℤ → List ℤ → ℤ → Result (List ℤ) ShareFault
shares_of how rest amount weights most =
    cond (not (are_weights weights)) (Err Overflow)
    (cond (int_eq (parts_in_all how weights) (pos 0)) (Err ZeroBasis)
    (cond (not (are_within most (truncated_shares how amount weights))) (Err Overflow)
    (cond (not (are_within most (full_shares how rest amount weights))) (Err Overflow)
    (Ok (full_shares how rest amount weights)))))

-- what the call answers, and what it leaves of the old shares
abbrev pub answered : Result (List ℤ) ShareFault → Result Unit ShareFault
answered (Ok shares) = Ok tt
answered (Err fault) = Err fault

abbrev pub written : Result (List ℤ) ShareFault → List ℤ → List ℤ
written (Ok shares) old = shares
written (Err fault) old = old

-- ---- the refusals, one by one

abbrev pub IsWithin : ℤ → ℤ → Type 0
IsWithin most number = (neg_ℤ most ≤ℤ number) × (number ≤ℤ most)

abbrev pub AreWeights : List ℤ → Type 0
AreWeights weights = All (IsWithin (pos 999999999999999999)) weights

-- the weights, all in range, by which an amount is shared out add up to zero
abbrev pub HasZeroBasis : Spread → List ℤ → Type 0
HasZeroBasis how weights = AreWeights weights × (how ≡ Proportional) × (total weights ≡ pos 0)

-- each share is within the limit, before the remainder and after it
abbrev pub AreSharesWithin : Spread → Rest → ℤ → List ℤ → ℤ → Type 0
AreSharesWithin how rest amount weights most = All (IsWithin most) (truncated_shares how amount weights) × All (IsWithin most) (full_shares how rest amount weights)

-- a weight is out of range; or all are in range, and the amount can be shared out, but a share is out of range
abbrev pub Overflows : Spread → Rest → ℤ → List ℤ → ℤ → Type 0
Overflows how rest amount weights most = (¬ AreWeights weights) ⊎ (AreWeights weights × (¬ HasZeroBasis how weights) × (¬ AreSharesWithin how rest amount weights most))
