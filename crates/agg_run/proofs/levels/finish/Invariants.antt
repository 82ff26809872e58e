use Rattle.std.proofs.Common.{ℕ, ◌≡◌, List}
use Rattle.std.specs.List.{IsDistinct}
use Rattle.std.specs.Option.{option_map}
use Rattle.std.specs.Map.{keys_of}
use Rattle.std.specs.Ordering.{eq_by_cmp}
use Rattle.aw_var.specs.CellMap.{by_slots}
use Rattle.agg_run.specs.inside.Levels.{fold_at, held_at, or_else, ended}
use Rattle.agg_run.proofs.levels.finish.Given as goal

abbrev pub invariant-loop-at : goal.invariant-loop-at
invariant-loop-at l = IsDistinct (eq_by_cmp by_slots) (keys_of l.at-iterator) ×
    ((key : List ℕ) → or_else (option_map (ended l.kind l.operator l.tree l.place key) (fold_at l.at-iterator key)) (held_at l.numbers.entries key)
    ≡ or_else (option_map (ended l.kind l.operator l.tree l.place key) (fold_at l.level.entries key)) (held_at l.initial.numbers.entries key))
