use Rattle.std.proofs.Common.{◌≡◌, ◌-◌, ◌+◌, ◌<◌, ◌^◌, arith, subst, sym}
use Rattle.aw_var.proofs.Digits.{DigitsFrom, digits_more, digits_end}
use Rattle.aw_var.proofs.patching.write_digits.Goals as goal

pub loop-at-preserved : goal.loop-at-preserved
loop-at-preserved c =
    let one : c.loop-at.at ≡ c.loop-at.at - 1 + 1 = omega arith in
    digits_more c.loop-at.slots (c.loop-at.at - 1) c.loop-at.rest c.args.number (omega arith) (subst (λ n. DigitsFrom c.loop-at.slots n c.loop-at.rest c.args.number) one c.loop-at.invariant)

pub returns : goal.returns
returns c =
    let none : c.loop-at.at ≡ 0 = omega arith in
    digits_end c.loop-at.slots c.loop-at.rest c.args.number (subst (λ n. c.args.number < 65536 ^ n) (sym c.loop-at.auto.slots) c.requires) (subst (λ n. DigitsFrom c.loop-at.slots n c.loop-at.rest c.args.number) none c.loop-at.invariant)
