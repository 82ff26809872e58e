use Rattle.std.proofs.Common.{◌≡◌, ◌∙◌, refl, sym, arith}
use Rattle.dim_maintain.proofs.Turning.{turned_none, turned_more, turned_all}
use Rattle.dim_maintain.proofs.changing.move_from_end.Goals as goal

pub loop-init : goal.loop-init
loop-init c = (turned_none c.args.made.now.entries c.args.at (omega (arith, c.requires)), refl)

pub loop-preserved : goal.loop-preserved
loop-preserved c = (
  turned_more c.args.made.now.entries c.args.at c.loop.counter c.loop.made.entries c.move_last.new.made.entries c.loop.invariant.0 (omega (arith, c.requires, c.loop-test.true)) c.move_last.ensures.entries,
  c.move_last.ensures.next ∙ c.loop.invariant.1,
)

pub returns : goal.returns
returns c = λ rest these is count.
    let all : c.loop.counter ≡ c.args.count = omega (arith, c.loop-test.false, c.loop.auto.counter-end) in
    let same = turned_all c.args.made.now.entries c.args.at c.loop.counter c.loop.made.entries rest these c.loop.invariant.0 is (count ∙ sym all) in
    λ i. record { entries = same i; next = c.loop.invariant.1 i }
