use Rattle.std.proofs.Common.{rules, ◌≡◌, get_or, refl, sym, ap, ◌∙◌, arith}
use Rattle.aw_rel.specs.Hierarchy.{first_loop}
use Rattle.agg_run.proofs.Lines.{tree_here}
use Rattle.agg_run.proofs.aggregation.hierarchy.Goals as goal

pub returns-in-Ok-clause-tree : goal.returns-in-Ok-clause-tree
returns-in-Ok-clause-tree c =
    let relation : c.item-relation.result.now ≡ get_or c.args.parents.now c.args.line c.item-relation.result.now = search rules in
    let here = tree_here c.args.map.now.lines c.args.map.now.dimensions c.args.over.now c.args.dimensions.now c.args.parents.now c.args.line c.place_along-place.result c.item-dimension.result.now c.item-relation.result.now
    c.requires.paired c.requires.lines c.requires.there c.place_along-place.ensures.value (omega (arith, c.place_along-place.ensures.within, c.requires.over)) c.item-dimension.ensures relation in
    c.in-Ok.ensures.value ∙ here

pub returns-in-Ok-clause-none : goal.returns-in-Ok-clause-none
returns-in-Ok-clause-none c =
    let relation : c.item-relation.result.now ≡ get_or c.args.parents.now c.args.line c.item-relation.result.now = search rules in
    let here = tree_here c.args.map.now.lines c.args.map.now.dimensions c.args.over.now c.args.dimensions.now c.args.parents.now c.args.line c.place_along-place.result c.item-dimension.result.now c.item-relation.result.now
    c.requires.paired c.requires.lines c.requires.there c.place_along-place.ensures.value (omega (arith, c.place_along-place.ensures.within, c.requires.over)) c.item-dimension.ensures relation in
    ap first_loop (sym here) ∙ c.in-Ok.ensures.none

pub returns-in-Err-Loop-clause-cause : goal.returns-in-Err-Loop-clause-cause
returns-in-Err-Loop-clause-cause c =
    let relation : c.item-relation.result.now ≡ get_or c.args.parents.now c.args.line c.item-relation.result.now = search rules in
    let here = tree_here c.args.map.now.lines c.args.map.now.dimensions c.args.over.now c.args.dimensions.now c.args.parents.now c.args.line c.place_along-place.result c.item-dimension.result.now c.item-relation.result.now
    c.requires.paired c.requires.lines c.requires.there c.place_along-place.ensures.value (omega (arith, c.place_along-place.ensures.within, c.requires.over)) c.item-dimension.ensures relation in
    let cause = rw c.in-Err-Loop.field-0-is at c.in-Err-Loop.ensures.cause in
    (refl, ap first_loop (sym here) ∙ cause)
