use Rattle.std.proofs.Common.{◌≡◌, ◌≤◌, length, sym, ap, ◌∙◌, arith}
use Rattle.agg_run.specs.Aggregates.{combination_count}
use Rattle.agg_run.specs.Calls.{values_of, lines_of}
use Rattle.agg_run.specs.declared.fault.AggFault.TheVariants.{Overflow}
use Rattle.agg_run.specs.inside.Levels.{held_at}
use Rattle.agg_run.specs.inside.Lines.{some_line}
use Rattle.agg_run.proofs.Ends.{after_is, no_relation, refused_by, answers_patch, answers_overflow}
use Rattle.agg_run.proofs.Lines.{as_many_trees, are_of_values}
use Rattle.agg_run.proofs.Rooms.{first_room}
use Rattle.agg_run.proofs.aggregation.aggregate.Goals as goal

pub passes-requires-clause-trees : goal.passes-requires-clause-trees
passes-requires-clause-trees g c κs lives =
    as_many_trees c.args.map.now.lines c.args.map.now.dimensions c.args.over.now c.args.dimensions.now c.args.parents.now c.in_ok-trees.trees c.in_ok-trees.ensures.paired c.requires.lines c.in_ok-trees.ensures.trees

pub passes-requires-clause-values : goal.passes-requires-clause-values
passes-requires-clause-values g c κs lives = are_of_values c.args.map.now.lines some_line no_relation c.args.map.now.dimensions c.args.over.now c.args.dimensions.now c.args.parents.now c.in_ok-trees.trees c.in_ok-trees.ensures.paired c.requires.lines c.in_ok-trees.ensures.trees

pub passes-requires-clause-room : goal.passes-requires-clause-room
passes-requires-clause-room g c κs lives =
    let few : combination_count (values_of c.args.dimensions.now) ≤ 4194304 = omega (arith, c.combination_count-count.ensures, c.if-count-gt-MOST_CELLS.false) in
    first_room c.args.map.now.lines c.args.map.now.dimensions c.args.over.now c.in_ok-trees.trees c.args.dimensions.now c.args.cells.now.cells (held_at c.in_ok-before.before.entries) (length c.args.over.now)
    c.in_ok-trees.ensures.distinct c.requires.along (are_of_values c.args.map.now.lines some_line no_relation c.args.map.now.dimensions c.args.over.now c.args.dimensions.now c.args.parents.now c.in_ok-trees.trees c.in_ok-trees.ensures.paired c.requires.lines c.in_ok-trees.ensures.trees) few c.in_ok-before.ensures.value c.in_ok-before.ensures.small

pub returns-in-Some-clause-refused : goal.returns-in-Some-clause-refused
returns-in-Some-clause-refused g c = λ fault other is.
    let few : combination_count (values_of c.args.dimensions.now) ≤ 4194304 = omega (arith, c.combination_count-count.ensures, c.if-count-gt-MOST_CELLS.false) in
    let same : Overflow c.in-Some.at ≡ fault = cc in
    answers_overflow c.args.kind c.args.dimensions.now (lines_of c.args.map.now c.args.over.now c.args.dimensions.now c.args.parents.now) c.args.cells.now.cells c.in_ok-after.after.entries c.requires.numeric (after_is c.args.kind c.args.map.now c.args.over.now c.args.dimensions.now c.args.parents.now c.args.cells.now.cells c.in_ok-trees.trees c.in_ok-before.before.entries c.in_ok-after.after.entries c.requires.over c.in_ok-trees.ensures.trees c.in_ok-before.ensures.value c.in_ok-after.ensures)
    c.in-Some.at c.in_ok-trees.ensures.none few c.in_ok-before.ensures.valid.map c.first_out_of_range.ensures.ordered (sym c.first_out_of_range.ensures.first ∙ c.in-Some.is) ∙ ap refused_by same

pub returns-clause-patch : goal.returns-clause-patch
returns-clause-patch g c =
    let few : combination_count (values_of c.args.dimensions.now) ≤ 4194304 = omega (arith, c.combination_count-count.ensures, c.if-count-gt-MOST_CELLS.false) in
    answers_patch c.args.kind c.args.dimensions.now (lines_of c.args.map.now c.args.over.now c.args.dimensions.now c.args.parents.now) c.args.cells.now.cells c.in_ok-after.after.entries c.requires.numeric (after_is c.args.kind c.args.map.now c.args.over.now c.args.dimensions.now c.args.parents.now c.args.cells.now.cells c.in_ok-trees.trees c.in_ok-before.before.entries c.in_ok-after.after.entries c.requires.over c.in_ok-trees.ensures.trees c.in_ok-before.ensures.value c.in_ok-after.ensures)
    c.in_ok-closing.closing.cells _ c.in_ok-trees.ensures.none few c.in_ok-before.ensures.valid.map c.in_ok-closing.ensures.map c.first_out_of_range.ensures.ordered (sym c.first_out_of_range.ensures.first ∙ c.in_default.is)
    c.in_ok-closing.ensures.cells c.in_ok-patch_since.ensures
