use Rattle.std.proofs.Common.{◌<◌, ◌≤◌, ◌+◌, length, ◌∙◌, arith}
use Rattle.agg_run.specs.Calls.{lines_of}
use Rattle.agg_run.proofs.Lines.{length-along, trees_more, loop_more, trees_all, loop_none}
use Rattle.agg_run.proofs.aggregation.hierarchies.Goals as goal

pub loop-line-preserved : goal.loop-line-preserved
loop-line-preserved c =
    let long = length-along c.args.map.now.lines c.args.map.now.dimensions c.args.over.now c.args.dimensions.now c.args.parents.now c.line_count-count.ensures.paired c.requires.lines in
    let within : c.loop-line.line < length (lines_of c.args.map.now c.args.over.now c.args.dimensions.now c.args.parents.now) = omega (arith, long, c.loop-line-test.true, c.line_count-count.ensures.value) in (
      c.in_ok-push.ensures.ok ∙ trees_more (lines_of c.args.map.now c.args.over.now c.args.dimensions.now c.args.parents.now) c.loop-line.line (c.loop-line.line + 1) c.loop-line.trees c.in_ok-tree.tree (omega arith) within c.in_ok-tree.ensures.tree c.loop-line.invariant.0,
      loop_more (lines_of c.args.map.now c.args.over.now c.args.dimensions.now c.args.parents.now) c.loop-line.line (c.loop-line.line + 1) _ (omega arith) within c.in_ok-tree.ensures.none c.loop-line.invariant.1,
    )

pub returns-clause-trees : goal.returns-clause-trees
returns-clause-trees c =
    let long = length-along c.args.map.now.lines c.args.map.now.dimensions c.args.over.now c.args.dimensions.now c.args.parents.now c.line_count-count.ensures.paired c.requires.lines in
    let end : length (lines_of c.args.map.now c.args.over.now c.args.dimensions.now c.args.parents.now) ≤ c.loop-line.line = omega (arith, long, c.loop-line-test.false, c.line_count-count.ensures.value) in
    trees_all (lines_of c.args.map.now c.args.over.now c.args.dimensions.now c.args.parents.now) c.loop-line.line c.loop-line.trees end c.loop-line.invariant.0

pub returns-clause-none : goal.returns-clause-none
returns-clause-none c =
    let long = length-along c.args.map.now.lines c.args.map.now.dimensions c.args.over.now c.args.dimensions.now c.args.parents.now c.line_count-count.ensures.paired c.requires.lines in
    let end : length (lines_of c.args.map.now c.args.over.now c.args.dimensions.now c.args.parents.now) ≤ c.loop-line.line = omega (arith, long, c.loop-line-test.false, c.line_count-count.ensures.value) in
    loop_none (lines_of c.args.map.now c.args.over.now c.args.dimensions.now c.args.parents.now) c.loop-line.line _ end c.loop-line.invariant.1
