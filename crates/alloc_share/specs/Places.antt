-- Which candidate gets what the shares, cut off toward zero, leave of an amount.
use Rattle.std.specs.Prelude.{ℕ, ◌-◌, ℤ, Bool, int_le, List, length}
use Rattle.std.specs.List.{list_all, position_or_len}
use Rattle.aw_cell.specs.declared.operator.Rest.{Rest}
use Rattle.aw_cell.specs.declared.operator.Rest.TheVariants.{First, Last, Min, Max}

-- whether no weight is less, and whether none is greater
abbrev pub is_least : List ℤ → ℤ → Bool
is_least weights weight = list_all (λ other. int_le weight other) weights

abbrev pub is_greatest : List ℤ → ℤ → Bool
is_greatest weights weight = list_all (λ other. int_le other weight) weights

-- the first of equals
abbrev pub first_least : List ℤ → ℕ
first_least weights = position_or_len (is_least weights) weights

abbrev pub first_greatest : List ℤ → ℕ
first_greatest weights = position_or_len (is_greatest weights) weights

abbrev pub place_of_rest : Rest → List ℤ → ℕ
place_of_rest First weights = 0
place_of_rest Last weights = length weights - 1
place_of_rest Min weights = first_least weights
place_of_rest Max weights = first_greatest weights
