-- Worked cases, each worked out by hand: a tree with stale inner cells and a value without any, two lines, an average and a
-- count, the mean of leaves at two depths, a loop, a sum out of range that a later line takes away, and cells off the combinations.
use Rattle.std.proofs.Common.{◌≡◌, ℕ, pos, negsuc, List, [], ◌∷◌, Some, None, Ok, Err, refl}
use Rattle.aw_cell.specs.declared.cell.Cell.TheVariants.{Na, Num, Int}
use Rattle.aw_cell.specs.declared.cell.Kind.TheVariants as kind
use Rattle.aw_cell.specs.declared.operator.Operator.TheVariants.{Sum, Min, Max, Average, Count}
use Rattle.aw_cell.specs.Rounding.{rounded}
use Rattle.aw_rel.specs.Hierarchy.{Tree}
use Rattle.aw_var.specs.CellMap.{Cells}
use Rattle.agg_run.specs.Aggregates.{aggregate_of}
use Rattle.agg_run.specs.declared.fault.AggFault.TheVariants.{Loop, Overflow}

-- ALL 0; EAST 1, WEST 2, SOUTH 3 below it; E1 4, E2 5 below EAST; W1 6, W2 7 below WEST; S1 8 below SOUTH
regions : Tree
regions = (0, None) ∷ (1, Some 0) ∷ (2, Some 0) ∷ (3, Some 0) ∷ (4, Some 1) ∷ (5, Some 1) ∷ (6, Some 2) ∷ (7, Some 2) ∷ (8, Some 3) ∷ []

stale : Cells
stale = (0 ∷ [], Num (pos 90000)) ∷ (1 ∷ [], Num (pos 50000)) ∷ (4 ∷ [], Num (pos 999999999999999999)) ∷ (5 ∷ [], Num (negsuc 999999999999999998)) ∷ (6 ∷ [], Num (pos 15000)) ∷ (7 ∷ [], Num (pos 20000)) ∷ []

nine : List (List ℕ)
nine = (0 ∷ 1 ∷ 2 ∷ 3 ∷ 4 ∷ 5 ∷ 6 ∷ 7 ∷ 8 ∷ []) ∷ []

sums : aggregate_of kind.Num nine (record { tree = regions; place = 0; operator = Sum } ∷ []) stale ≡ Ok ((0 ∷ [], Num (pos 35000)) ∷ (1 ∷ [], Num (pos 0)) ∷ (2 ∷ [], Num (pos 35000)) ∷ [])
unfolding regions stale nine
sums = refl

-- products: 0 is the top of 1 and 2; markets: 0 is the top of 1 and 2
pair : Tree
pair = (0, None) ∷ (1, Some 0) ∷ (2, Some 0) ∷ []

three : List ℕ
three = 0 ∷ 1 ∷ 2 ∷ []

-- the sums are 3 and 5, the greatest of them is 5; a cell at a key that is no combination stays, and takes no part
two_lines : aggregate_of kind.Num (three ∷ three ∷ []) (record { tree = pair; place = 0; operator = Sum } ∷ record { tree = pair; place = 1; operator = Max } ∷ [])
    ((1 ∷ 1 ∷ [], Num (pos 10000)) ∷ (1 ∷ 2 ∷ [], Num (pos 50000)) ∷ (1 ∷ 9 ∷ [], Num (pos 7)) ∷ (2 ∷ 1 ∷ [], Num (pos 20000)) ∷ [])
    ≡ Ok ((0 ∷ 0 ∷ [], Num (pos 50000)) ∷ (0 ∷ 1 ∷ [], Num (pos 30000)) ∷ (0 ∷ 2 ∷ [], Num (pos 50000)) ∷ (1 ∷ 0 ∷ [], Num (pos 50000)) ∷ (2 ∷ 0 ∷ [], Num (pos 20000)) ∷ [])
unfolding pair three
two_lines = refl

-- the mean of all leaves, 1, 2 and 6, is 3, and not the mean of 1 1/2 and 6
average : aggregate_of kind.Num nine (record { tree = regions; place = 0; operator = Average } ∷ []) ((4 ∷ [], Num (pos 10000)) ∷ (5 ∷ [], Num (pos 20000)) ∷ (7 ∷ [], Num (pos 60000)) ∷ [])
    ≡ Ok ((0 ∷ [], Num (pos 30000)) ∷ (1 ∷ [], Num (pos 15000)) ∷ (2 ∷ [], Num (pos 60000)) ∷ [])
unfolding regions nine rounded
average = refl

whole_average : aggregate_of kind.Int nine (record { tree = regions; place = 0; operator = Average } ∷ []) ((4 ∷ [], Int (pos 1)) ∷ (5 ∷ [], Int (pos 2)) ∷ [])
    ≡ Ok ((0 ∷ [], Int (pos 2)) ∷ (1 ∷ [], Int (pos 2)) ∷ [])
unfolding regions nine rounded
whole_average = refl

count : aggregate_of kind.Num nine (record { tree = regions; place = 0; operator = Count } ∷ []) ((4 ∷ [], Num (pos 10000)) ∷ (5 ∷ [], Num (pos 20000)) ∷ (7 ∷ [], Num (pos 60000)) ∷ [])
    ≡ Ok ((0 ∷ [], Num (pos 30000)) ∷ (1 ∷ [], Num (pos 20000)) ∷ (2 ∷ [], Num (pos 10000)) ∷ [])
unfolding regions nine
count = refl

-- 0 over 1 and 2, 1 over 3: NA is no zero; 2 is a leaf one step up from 3
uneven : Tree
uneven = (3, Some 1) ∷ (2, Some 0) ∷ (1, Some 0) ∷ (0, None) ∷ []

least : aggregate_of kind.Int ((3 ∷ 2 ∷ 1 ∷ 0 ∷ []) ∷ []) (record { tree = uneven; place = 0; operator = Min } ∷ []) ((1 ∷ [], Int (negsuc 9)) ∷ (2 ∷ [], Int (pos 4)) ∷ [])
    ≡ Ok ((0 ∷ [], Int (pos 4)) ∷ (1 ∷ [], Na) ∷ [])
unfolding uneven
least = refl

-- a sum out of range that the next line takes away isn't seen; alone it is refused
later_least : aggregate_of kind.Int (three ∷ three ∷ []) (record { tree = pair; place = 0; operator = Sum } ∷ []) ((1 ∷ 1 ∷ [], Int (pos 2147483647)) ∷ (2 ∷ 1 ∷ [], Int (pos 1)) ∷ []) ≡ Err (Overflow (0 ∷ 1 ∷ []))
unfolding pair three
later_least = refl

on_loop : aggregate_of kind.Num (three ∷ []) (record { tree = pair; place = 0; operator = Sum } ∷ record { tree = (1, Some 2) ∷ (2, Some 2) ∷ []; place = 0; operator = Sum } ∷ []) [] ≡ Err (Loop 1 2)
unfolding pair three
on_loop = refl
