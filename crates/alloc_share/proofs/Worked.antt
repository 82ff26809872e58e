-- Worked cases, each worked out by hand: every way, every place of the remainder with ties, and every refusal.
use Rattle.std.proofs.Common.{◌≡◌, pos, negsuc, [], ◌∷◌, Ok, Err, refl}
use Rattle.aw_cell.specs.declared.operator.Rest.TheVariants.{First, Last, Min, Max}
use Rattle.aw_cell.specs.declared.operator.Spread.TheVariants.{Even, HEven, Proportional, Copy, HCopy}
use Rattle.alloc_share.specs.declared.fault.ShareFault.TheVariants.{ZeroBasis, Overflow}
use Rattle.alloc_share.specs.Shares.{truncated, shares_of}

-- ten, in ten-thousandths, to three
thirds : shares_of Even Last (pos 100000) (pos 10000 ∷ pos 10000 ∷ pos 10000 ∷ []) (pos 999999999999999999) ≡ Ok (pos 33333 ∷ pos 33333 ∷ pos 33334 ∷ [])
unfolding truncated
thirds = refl

-- ten units by one, two and nothing: 3 1/3, 6 2/3 and 0
by_basis : shares_of Proportional First (pos 10) (pos 10000 ∷ pos 20000 ∷ pos 0 ∷ []) (pos 999999999999999999) ≡ Ok (pos 4 ∷ pos 6 ∷ pos 0 ∷ [])
unfolding truncated
by_basis = refl

-- below zero: -2 1/3 each, cut off toward zero
below : shares_of Even First (negsuc 6) (pos 1 ∷ pos 1 ∷ pos 1 ∷ []) (pos 99) ≡ Ok (negsuc 2 ∷ negsuc 1 ∷ negsuc 1 ∷ [])
unfolding truncated
below = refl

-- the first of the least: weights play no part in the shares
to_the_least : shares_of HEven Min (pos 7) (pos 5 ∷ pos 2 ∷ pos 2 ∷ []) (pos 99) ≡ Ok (pos 2 ∷ pos 3 ∷ pos 2 ∷ [])
unfolding truncated
to_the_least = refl

-- the first of the greatest
to_the_greatest : shares_of HEven Max (pos 7) (pos 2 ∷ pos 5 ∷ pos 5 ∷ []) (pos 99) ≡ Ok (pos 2 ∷ pos 3 ∷ pos 2 ∷ [])
unfolding truncated
to_the_greatest = refl

-- a weight below zero: 2 2/3, 2 2/3 and -1 1/3 of 4, and the remainder to the least
negative_weight : shares_of Proportional Min (pos 4) (pos 2 ∷ pos 2 ∷ negsuc 0 ∷ []) (pos 99) ≡ Ok (pos 2 ∷ pos 2 ∷ pos 0 ∷ [])
unfolding truncated
negative_weight = refl

-- a share below zero: 15 and -5 of 10
negative_share : shares_of Proportional Last (pos 10) (pos 3 ∷ negsuc 0 ∷ []) (pos 99) ≡ Ok (pos 15 ∷ negsuc 4 ∷ [])
unfolding truncated
negative_share = refl

-- weights that add up to less than zero
below_in_all : shares_of Proportional First (pos 7) (negsuc 1 ∷ negsuc 2 ∷ []) (pos 99) ≡ Ok (pos 3 ∷ pos 4 ∷ [])
unfolding truncated
below_in_all = refl

-- the whole amount to each, and no remainder
copies : shares_of Copy Last (negsuc 6) (pos 1 ∷ negsuc 0 ∷ []) (pos 99) ≡ Ok (negsuc 6 ∷ negsuc 6 ∷ [])
unfolding truncated
copies = refl

copies_to_all : shares_of HCopy Max (pos 5) (pos 0 ∷ pos 0 ∷ pos 0 ∷ []) (pos 5) ≡ Ok (pos 5 ∷ pos 5 ∷ pos 5 ∷ [])
unfolding truncated
copies_to_all = refl

-- to one alone
alone : shares_of Proportional Max (pos 5) (negsuc 0 ∷ []) (pos 5) ≡ Ok (pos 5 ∷ [])
unfolding truncated
alone = refl

-- weights of zero are a basis to HEVEN
no_weight : shares_of HEven First (pos 1) (pos 0 ∷ pos 0 ∷ []) (pos 99) ≡ Ok (pos 1 ∷ pos 0 ∷ [])
unfolding truncated
no_weight = refl

no_basis : shares_of Proportional First (pos 1) (pos 10000 ∷ negsuc 9999 ∷ []) (pos 99) ≡ Err ZeroBasis
unfolding truncated
no_basis = refl

-- nothing by no basis is refused too
nothing_by_no_basis : shares_of Proportional First (pos 0) (pos 0 ∷ []) (pos 99) ≡ Err ZeroBasis
unfolding truncated
nothing_by_no_basis = refl

-- a weight is asked under COPY too, and before the basis
great_weight : shares_of Copy First (pos 1) (pos 1000000000000000000 ∷ []) (pos 99) ≡ Err Overflow
unfolding truncated
great_weight = refl

greatest_weight : shares_of Copy First (pos 1) (pos 999999999999999999 ∷ []) (pos 99) ≡ Ok (pos 1 ∷ [])
unfolding truncated
greatest_weight = refl

weight_before_basis : shares_of Proportional First (pos 1) (pos 1000000000000000000 ∷ negsuc 999999999999999999 ∷ []) (pos 99) ≡ Err Overflow
unfolding truncated
weight_before_basis = refl

-- 30 is out of range, though 30 and -20 add up to 10
great_share : shares_of Proportional Last (pos 10) (pos 3 ∷ negsuc 1 ∷ []) (pos 25) ≡ Err Overflow
unfolding truncated
great_share = refl

-- 3 is in range, and with the remainder of 2 it isn't
great_with_remainder : shares_of Even First (pos 11) (pos 1 ∷ pos 1 ∷ pos 1 ∷ []) (pos 4) ≡ Err Overflow
unfolding truncated
great_with_remainder = refl

just_in_range : shares_of Even First (pos 11) (pos 1 ∷ pos 1 ∷ pos 1 ∷ []) (pos 5) ≡ Ok (pos 5 ∷ pos 3 ∷ pos 3 ∷ [])
unfolding truncated
just_in_range = refl

-- 3 1/3 and twice -1/3 of 2: 3 is out of range before the remainder of -1, and 2 isn't with it
great_before_remainder : shares_of Proportional Max (pos 2) (pos 5 ∷ negsuc 0 ∷ negsuc 0 ∷ []) (pos 2) ≡ Err Overflow
unfolding truncated
great_before_remainder = refl

negative_remainder : shares_of Proportional Max (pos 2) (pos 5 ∷ negsuc 0 ∷ negsuc 0 ∷ []) (pos 3) ≡ Ok (pos 2 ∷ pos 0 ∷ pos 0 ∷ [])
unfolding truncated
negative_remainder = refl
