use Rattle.std.proofs.Common.{◌≡◌, ℕ, List, length, ap, ◌∙◌, arith}
use Rattle.agg_map.specs.Sound.{IsSound}
use Rattle.agg_map.specs.declared.line.MapLine.{MapLine}
use Rattle.agg_run.proofs.Lines.{lines_most}
use Rattle.agg_run.proofs.aggregation.line_count.Goals as goal

pub returns-clause-value : goal.returns-clause-value
returns-clause-value c =
    let sound : IsSound c.args.map.now.lines c.args.map.now.dimensions = c.lines.ensures.sound in
    let paired = sound.paired in
    let size : c.len.result ≡ length c.args.map.now.lines = c.len.ensures ∙ ap (λ (l : List MapLine). length l) c.lines.ensures.value in
    let slots = ap (λ (l : List ℕ). length l) c.slots.ensures.value in
    let most = lines_most c.args.over.now c.args.map.now.dimensions sound.differ c.requires.along in
    let least = c.min.ensures in
    omega (arith, least, size, slots, most, paired)
