use Rattle.std.proofs.Common.{◌≡◌, ◌∙◌, ap₂, sym, subst, refl, inr, List, [], ◌∷◌, ◌++◌, ◌+◌, ℕ, drop, Ok}
use Rattle.agg_map.specs.Maps as spec
use Rattle.agg_map.specs.Maps.{Map}
use Rattle.agg_map.specs.Sound.{IsSound}
use Rattle.agg_map.specs.inside.Telling.{lines_behind}
use Rattle.agg_map.specs.declared.line.MapLine.{MapLine}
use Rattle.agg_map.proofs.MapsRead.{one_more, stops, sound_more, sound_none}
use Rattle.agg_map.proofs.reading.lines_in.Goals as goal

pub loop-line-init : goal.loop-line-init
loop-line-init c =
    subst (λ (lines : List MapLine). (lines_behind c.args.catalogue.now (record { lines = lines; dimensions = c.new-dimensions.result }) c.args.written.now ≡ spec.lines_in c.args.catalogue.now c.args.written.now) × IsSound lines c.new-dimensions.result) (sym c.new-lines.ensures)
    (subst (λ (dimensions : List ℕ). (lines_behind c.args.catalogue.now (record { lines = []; dimensions = dimensions }) c.args.written.now ≡ spec.lines_in c.args.catalogue.now c.args.written.now) × IsSound [] dimensions) (sym c.new-dimensions.ensures) (refl, sound_none))

pub returns-in-Err : goal.returns-in-Err
returns-in-Err c =
    let catalogue = c.args.catalogue.now in
    let line = c.line-item.result in
    let answer = ap₂ (λ (lines : List MapLine) (dimensions : List ℕ). spec.line_in catalogue (record { lines = lines; dimensions = dimensions }) line) c.as_slice.ensures c.as_slice-in-loop-line.ensures in
    inr (stops catalogue c.args.written.now c.loop-line.line-index (record { lines = c.loop-line.lines; dimensions = c.loop-line.dimensions }) line c.loop-line-test.true c.line-item.is c.loop-line.invariant.0
    c.in-Err.fault (sym answer ∙ sym c.line_in.ensures ∙ c.in-Err.is))

pub loop-line-preserved : goal.loop-line-preserved
loop-line-preserved c =
    let catalogue = c.args.catalogue.now in
    let written = c.args.written.now in
    let at = c.loop-line.line-index in
    let line = c.line-item.result in
    let map : Map = record { lines = c.loop-line.lines; dimensions = c.loop-line.dimensions } in
    let new : MapLine × ℕ = (c.in-Ok.read, c.in-Ok.dimension) in
    let answer = ap₂ (λ (lines : List MapLine) (dimensions : List ℕ). spec.line_in catalogue (record { lines = lines; dimensions = dimensions }) line) c.as_slice.ensures c.as_slice-in-loop-line.ensures in
    let is : spec.line_in catalogue map line ≡ Ok new = sym answer ∙ sym c.line_in.ensures ∙ c.in-Ok.is in
    subst (λ (lines : List MapLine). (lines_behind catalogue (record { lines = lines; dimensions = c.push-in-Ok.new.self }) (drop (at + 1) written) ≡ spec.lines_in catalogue written) × IsSound lines c.push-in-Ok.new.self) (sym c.in_ok-push-in-Ok.ensures.ok)
    (subst (λ (dimensions : List ℕ). (lines_behind catalogue (record { lines = c.loop-line.lines ++ c.in-Ok.read ∷ []; dimensions = dimensions }) (drop (at + 1) written) ≡ spec.lines_in catalogue written) × IsSound (c.loop-line.lines ++ c.in-Ok.read ∷ []) dimensions) (sym c.in_ok-push-in-Ok-2.ensures.ok)
    (one_more catalogue written at map line c.loop-line-test.true c.line-item.is c.loop-line.invariant.0 new is, sound_more catalogue map line new is c.loop-line.invariant.1))
