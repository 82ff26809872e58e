-- How many tokens keep the limits, counted one by one.
use Rattle.std.specs.Prelude.{ℕ, suc, cond, List, [], ◌∷◌}
use Rattle.dml_grammar.specs.declared.placed.Placed.{Placed}
use Rattle.dml_grammar.specs.declared.limits.Counts.{Counts}
use Rattle.dml_grammar.specs.Limits.{counted, is_allowed}

abbrev pub front : Counts → List Placed → ℕ
front c [] = 0
front c (x ∷ xs) = cond (is_allowed (counted c x)) (suc (front (counted c x) xs)) 0
