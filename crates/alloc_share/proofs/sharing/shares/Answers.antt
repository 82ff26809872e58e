use Rattle.std.proofs.Common.{◌≡◌}
use Rattle.std.proofs.lemmas.Int.{to_z-of_z}
use Rattle.alloc_share.specs.declared.fault.ShareFault.TheVariants.{ZeroBasis, Overflow}
use Rattle.alloc_share.specs.Shares.{shares_of, answered}
use Rattle.alloc_share.proofs.Granted.{zero_is, overflow_is, told_by}
use Rattle.alloc_share.proofs.sharing.shares.Goals as goal

pub returns-clause-zero : goal.returns-clause-zero
returns-clause-zero c =
    let f = c.ranges.amount in
    let g = c.ranges.limit in
    let is : c.share_out.result ≡ answered (shares_of c.args.how c.args.rest c.args.amount c.args.weights.now c.args.limit) = simp to_z-of_z at c.share_out.ensures.answer in
    told_by ZeroBasis c.share_out.result (answered (shares_of c.args.how c.args.rest c.args.amount c.args.weights.now c.args.limit)) is
    (zero_is c.args.how c.args.rest c.args.amount c.args.weights.now c.args.limit c.requires.candidates)

pub returns-clause-overflow : goal.returns-clause-overflow
returns-clause-overflow c =
    let f = c.ranges.amount in
    let g = c.ranges.limit in
    let is : c.share_out.result ≡ answered (shares_of c.args.how c.args.rest c.args.amount c.args.weights.now c.args.limit) = simp to_z-of_z at c.share_out.ensures.answer in
    told_by Overflow c.share_out.result (answered (shares_of c.args.how c.args.rest c.args.amount c.args.weights.now c.args.limit)) is
    (overflow_is c.args.how c.args.rest c.args.amount c.args.weights.now c.args.limit c.requires.candidates)
