use Rattle.std.proofs.Common.{rules, ◌≡◌, ◌<◌, ◌≤◌, ◌+◌, ℕ, List, length, drop, get_or, sym, ap, ◌∙◌, arith}
use Rattle.agg_run.specs.Aggregates.{Line, pass, passes}
use Rattle.agg_run.specs.inside.Levels.{held_at}
use Rattle.agg_run.specs.inside.Lines.{no_line, lines_with}
use Rattle.agg_run.proofs.Bounds.{room_small}
use Rattle.agg_run.proofs.Lines.{length-with, values_here, line_here, passes_more, passes_all, room_more}
use Rattle.agg_run.proofs.aggregation.passes.Goals as goal

pub pass-requires-clause-values : goal.pass-requires-clause-values
pass-requires-clause-values g c κs lives =
    let tree : c.item-tree.result.now ≡ get_or c.args.trees.now c.loop-number.number c.item-tree.result.now = search rules in
    values_here c.args.trees.now c.args.map.now.dimensions c.args.over.now c.args.dimensions.now c.loop-number.number c.place_along-place.result c.item-tree.result.now c.item-dimension.result.now c.requires.values
    (omega (arith, c.loop-number-test.true, c.line_count-count.ensures.value, c.requires.trees)) tree c.place_along-place.ensures.value (omega (arith, c.place_along-place.ensures.within, c.requires.over)) c.item-dimension.ensures

pub loop-number-preserved : goal.loop-number-preserved
loop-number-preserved g c =
    let paired = c.line_count-count.ensures.paired in
    let count = c.line_count-count.ensures.value in
    let long = length-with c.args.map.now.lines c.args.map.now.dimensions c.args.over.now c.args.trees.now paired c.requires.trees in
    let there : c.loop-number.number < length c.args.map.now.lines = omega (arith, count, c.loop-number-test.true) in
    let within : c.loop-number.number < length (lines_with c.args.map.now.lines c.args.map.now.dimensions c.args.over.now c.args.trees.now) = omega (arith, long, there) in
    let tree : c.item-tree.result.now ≡ get_or c.args.trees.now c.loop-number.number c.item-tree.result.now = search rules in
    let line = line_here c.args.map.now.lines c.args.map.now.dimensions c.args.over.now c.args.trees.now c.loop-number.number c.place_along-place.result c.item-tree.result.now c.operator_of-operator.result paired c.requires.trees there
    tree c.place_along-place.ensures.value c.operator_of-operator.ensures in
    let small = room_small (length c.args.over.now) (length c.item-tree.result.now) (drop c.loop-number.number (lines_with c.args.map.now.lines c.args.map.now.dimensions c.args.over.now c.args.trees.now)) (held_at c.loop-number.numbers.entries) c.in_ok-numbers.ensures.few c.loop-number.invariant.1 in
    let same : (key : List ℕ) → length key ≡ length c.args.over.now → held_at c.in_ok-numbers.numbers.entries key ≡ pass c.args.kind (held_at c.loop-number.numbers.entries) (get_or (lines_with c.args.map.now.lines c.args.map.now.dimensions c.args.over.now c.args.trees.now) c.loop-number.number no_line) key =
    λ key size. c.in_ok-numbers.ensures.after (length c.args.over.now) c.place_along-place.ensures.within small key size ∙ ap (λ (l : Line). pass c.args.kind (held_at c.loop-number.numbers.entries) l key) line in (
      passes_more c.args.kind (lines_with c.args.map.now.lines c.args.map.now.dimensions c.args.over.now c.args.trees.now) (length c.args.over.now) c.loop-number.number (c.loop-number.number + 1) (held_at c.loop-number.numbers.entries) (held_at c.in_ok-numbers.numbers.entries) (passes c.args.kind (lines_with c.args.map.now.lines c.args.map.now.dimensions c.args.over.now c.args.trees.now) (held_at c.args.before.entries)) (omega arith) within same c.loop-number.invariant.0,
      room_more c.args.kind (lines_with c.args.map.now.lines c.args.map.now.dimensions c.args.over.now c.args.trees.now) (length c.args.over.now) c.loop-number.number (c.loop-number.number + 1) (held_at c.loop-number.numbers.entries) (held_at c.in_ok-numbers.numbers.entries) (omega arith) within same c.loop-number.invariant.1,
    )

pub returns : goal.returns
returns g c = λ key size.
    let long = length-with c.args.map.now.lines c.args.map.now.dimensions c.args.over.now c.args.trees.now c.line_count-count.ensures.paired c.requires.trees in
    let end : length (lines_with c.args.map.now.lines c.args.map.now.dimensions c.args.over.now c.args.trees.now) ≤ c.loop-number.number = omega (arith, long, c.loop-number-test.false, c.line_count-count.ensures.value) in
    sym (passes_all c.args.kind (lines_with c.args.map.now.lines c.args.map.now.dimensions c.args.over.now c.args.trees.now) c.loop-number.number (held_at c.loop-number.numbers.entries) key end) ∙ c.loop-number.invariant.0 key size
