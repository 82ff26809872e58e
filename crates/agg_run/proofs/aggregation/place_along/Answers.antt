use Rattle.std.proofs.Common.{◌≡◌, get_or, ◌∙◌, arith}
use Rattle.agg_run.specs.Calls.{place_in}
use Rattle.agg_run.proofs.Lines.{place_within}
use Rattle.agg_run.proofs.aggregation.place_along.Goals as goal

pub returns-clause-within : goal.returns-clause-within
returns-clause-within c =
    let is : c.place_of.result ≡ place_in c.args.over.now (get_or c.args.map.now.dimensions c.args.line 0) = c.place_of.ensures ∙ (λ i. place_in (c.slots.ensures.value i) (c.dimension.ensures.value i)) in
    let below = place_within c.args.over.now c.args.map.now.dimensions c.args.line c.requires.along (omega (arith, c.requires.there, c.requires.paired)) in
    omega (arith, is, below)
