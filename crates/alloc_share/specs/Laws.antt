-- Laws on shares, each over every amount, weight and limit, in words of their own.
use Rattle.std.specs.Prelude.{◌≡◌, ◌≢◌, ℕ, ◌+◌, ◌<◌, ◌≤◌, ℤ, pos, neg_ℤ, ◌-ℤ◌, ◌*ℤ◌, int_lt, unsigned_abs, List, length, map, replicate, slice_index_or, All, Ok}
use Rattle.std.specs.List.{IsFirstBest}
use Rattle.aw_cell.specs.declared.operator.Rest.{Rest}
use Rattle.aw_cell.specs.declared.operator.Rest.TheVariants.{First, Last, Min, Max}
use Rattle.aw_cell.specs.declared.operator.Spread.{Spread}
use Rattle.aw_cell.specs.declared.operator.Spread.TheVariants.{Even, HEven, Proportional, Copy, HCopy}
use Rattle.alloc_share.specs.Shares.{total, IsWithin, shares_of}

-- `quotient` is `dividend / divisor`, cut off toward zero: it is off by less than one, and no farther from zero
pub record IsCutOff (dividend divisor quotient : ℤ) : Type 0 where
  pub near : unsigned_abs (dividend -ℤ quotient *ℤ divisor) < unsigned_abs divisor
  pub toward_zero : unsigned_abs (quotient *ℤ divisor) ≤ unsigned_abs dividend

-- what a candidate of this weight gets, if it isn't the one that the remainder goes to
abbrev pub IsShare : Spread → ℤ → List ℤ → ℤ → ℤ → Type 0
IsShare Even amount weights weight share = IsCutOff amount (pos (length weights)) share
IsShare HEven amount weights weight share = IsCutOff amount (pos (length weights)) share
IsShare Proportional amount weights weight share = IsCutOff (amount *ℤ weight) (total weights) share
IsShare Copy amount weights weight share = share ≡ amount
IsShare HCopy amount weights weight share = share ≡ amount

-- where the remainder goes: MIN and MAX to the first of equals
abbrev pub IsPlaceOfRest : Rest → List ℤ → ℕ → Type 0
IsPlaceOfRest First weights place = place ≡ 0
IsPlaceOfRest Last weights place = place + 1 ≡ length weights
IsPlaceOfRest Min weights place = IsFirstBest int_lt weights (length weights) place
IsPlaceOfRest Max weights place = IsFirstBest (λ x y. int_lt y x) weights (length weights) place

-- of at least one candidate, where the amount is shared out
abbrev pub Always : (Spread → Rest → ℤ → List ℤ → ℤ → List ℤ → Type 0) → Type 0
Always Holds = (how : Spread) (rest : Rest) (amount : ℤ) (weights : List ℤ) (most : ℤ) (shares : List ℤ) → 0 < length weights → shares_of how rest amount weights most ≡ Ok shares → Holds how rest amount weights most shares

-- the shares of EVEN, HEVEN and PROPORTIONAL add up to the amount
abbrev pub SharesAddUp : Type 0
SharesAddUp = Always (λ how rest amount weights most shares. how ≢ Copy → how ≢ HCopy → total shares ≡ amount)

-- each candidate but one has what it would get without a remainder, and the one is where the remainder goes
abbrev pub OneShareDiffers : Type 0
OneShareDiffers = Always (λ how rest amount weights most shares. (length shares ≡ length weights)
    × ((place : ℕ) × (place < length weights) × IsPlaceOfRest rest weights place
    × ((k : ℕ) → k < length weights → k ≢ place → IsShare how amount weights (slice_index_or weights k (pos 0)) (slice_index_or shares k (pos 0)))))

-- COPY and HCOPY give the amount to each
pub record CopiesAreWhole : Type 0 where
  pub copy : Always (λ how rest amount weights most shares. how ≡ Copy → shares ≡ replicate (length weights) amount)
  pub hcopy : Always (λ how rest amount weights most shares. how ≡ HCopy → shares ≡ replicate (length weights) amount)

-- weights and shares are in range
abbrev pub AllInRange : Type 0
AllInRange = Always (λ how rest amount weights most shares. All (IsWithin (pos 999999999999999999)) weights × All (IsWithin most) shares)

-- the amount below zero is shared out as the amount above it: no share is rounded down
abbrev pub SharesMirror : Type 0
SharesMirror = Always (λ how rest amount weights most shares. shares_of how rest (neg_ℤ amount) weights most ≡ Ok (map neg_ℤ shares))

-- where all candidates have one weight, which isn't zero, PROPORTIONAL is EVEN
abbrev pub EqualWeightsShareEvenly : Type 0
EqualWeightsShareEvenly = (rest : Rest) (amount : ℤ) (weights : List ℤ) (weight most : ℤ) → 0 < length weights → weight ≢ pos 0 → All (λ other. other ≡ weight) weights
    → shares_of Proportional rest amount weights most ≡ shares_of Even rest amount weights most
