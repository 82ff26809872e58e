use Rattle.std.proofs.Common.{◌≡◌, ◌∙◌, ◌∷◌, ◌-◌, ◌<◌, suc, length, map, sym, ap, arith}
use Rattle.std.specs.List.{slice_set}
use Rattle.dml_loop.specs.inside.Wheels.{WheelView, to_come, standing}
use Rattle.dml_loop.proofs.WheelTurns.{turn-goes_on, turns-further, turn-ends, turn-within, within-there, stands-there, turned-set}
use Rattle.dml_loop.proofs.places.turn.Goals as goal

pub returns-then-goes_on-clause-place : goal.returns-then-goes_on-clause-place
returns-then-goes_on-clause-place c =
    let at = c.loop-at.at - 1 in
    let now = c.loop-at.wheels.items in
    let on : c.loop-at.at ≡ suc (c.loop-at.at - 1) = omega (arith, c.loop-at-test.true) in
    let less : at < length now = turn-within c.args.wheels.now.items now c.loop-at.at at c.loop-at.invariant.turned on in
    stands-there now c.loop-at.place at c.step-goes_on.new.self c.index.result.now c.entry.result less c.loop-at.invariant.place (sym c.index.ensures) c.entry.ensures

pub returns-then-goes_on-clause-turned : goal.returns-then-goes_on-clause-turned
returns-then-goes_on-clause-turned c =
    let at = c.loop-at.at - 1 in
    let before = c.args.wheels.now.items in
    let now = c.loop-at.wheels.items in
    let wheel = c.index_mut.result.now in
    let on : c.loop-at.at ≡ suc (c.loop-at.at - 1) = omega (arith, c.loop-at-test.true) in
    turn-goes_on before now c.loop-at.at at wheel c.requires.within c.loop-at.invariant.turned on (sym c.index_mut.ensures.value) (sym c.step-goes_on.ensures.next ∙ c.if-goes_on.true)
    ∙ ap (λ (next : WheelView). map standing before ∷ to_come (slice_set now at next)) (sym c.step-goes_on.ensures.stepped)

pub loop-at-preserved : goal.loop-at-preserved
loop-at-preserved c =
    let at = c.loop-at.at - 1 in
    let before = c.args.wheels.now.items in
    let now = c.loop-at.wheels.items in
    let wheel = c.index_mut.result.now in
    let next = c.step-goes_on.new.self in
    let on : c.loop-at.at ≡ suc (c.loop-at.at - 1) = omega (arith, c.loop-at-test.true) in
    let less : at < length now = turn-within before now c.loop-at.at at c.loop-at.invariant.turned on in
    record {
      within = within-there now at wheel next less (sym c.index_mut.ensures.value) c.step-goes_on.ensures.stepped c.loop-at.invariant.within;
      place = stands-there now c.loop-at.place at next c.index.result.now c.entry.result less c.loop-at.invariant.place (sym c.index.ensures) c.entry.ensures;
      turned = turned-set before now at wheel next c.step-goes_on.ensures.stepped (turns-further before now c.loop-at.at at wheel c.loop-at.invariant.turned on (sym c.index_mut.ensures.value) (sym c.step-goes_on.ensures.next ∙ c.if-goes_on.false));
    }

pub returns-clause-turned : goal.returns-clause-turned
returns-clause-turned c = turn-ends c.args.wheels.now.items c.loop-at.wheels.items c.loop-at.at (omega (arith, c.loop-at-test.false)) c.loop-at.invariant.turned
