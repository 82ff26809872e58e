use Rattle.std.proofs.Common.{◌≡◌, ◌∙◌, ◌-ℤ◌, Bool, true, cond, pos, sym, ap}
use Rattle.alloc_share.specs.Shares.{adds_up}
use Rattle.alloc_share.proofs.Sizes.{difference_is, difference_small}
use Rattle.alloc_share.proofs.sharing.remainder.Goals as goal

pub returns-then-adds_up : goal.returns-then-adds_up
returns-then-adds_up c =
    let adds : adds_up c.args.how ≡ true = sym c.adds_up.ensures ∙ c.if-adds_up.true in
    record {
      value = difference_is c.args.amount c.args.sum c.ranges.amount c.requires
          ∙ sym (ap (λ (b : Bool). cond b (c.args.amount -ℤ c.args.sum) (pos 0)) adds);
      small = difference_small c.args.amount c.args.sum c.ranges.amount c.requires;
    }
