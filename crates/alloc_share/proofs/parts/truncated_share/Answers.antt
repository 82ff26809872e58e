use Rattle.std.proofs.Common.{◌≡◌, ◌∙◌, ap}
use Rattle.std.proofs.lemmas.Int.{to_z-of_z}
use Rattle.alloc_share.specs.Shares.{parts_of, truncated}
use Rattle.alloc_share.proofs.Sizes.{nonzero_bits, computed_fits, computed_is}
use Rattle.alloc_share.proofs.parts.truncated_share.Goals as goal

pub nonzero_div-result : goal.nonzero_div-result
nonzero_div-result c = (
  nonzero_bits c.args.all_parts c.ranges.all_parts c.requires.parts,
  computed_fits c.args.amount c.parts_of.result c.args.all_parts c.ranges.amount c.parts_of.ensures.weight c.ranges.all_parts,
)

pub returns : goal.returns
returns c =
    let f = c.ranges.weight in
    let parts : c.parts_of.result ≡ parts_of c.args.how c.args.weight = simp to_z-of_z at c.parts_of.ensures.value in
    computed_is c.args.amount c.parts_of.result c.args.all_parts c.ranges.amount c.parts_of.ensures.weight c.ranges.all_parts
    ∙ ap (λ p. truncated c.args.amount p c.args.all_parts) parts
