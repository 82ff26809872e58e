use Rattle.std.proofs.Common.{◌≡◌, ◌≤◌, length, refl, arith, rules}
use Rattle.std.proofs.lemmas.Bool.{and_parts}
use Rattle.aw_dim.proofs.making.are_listed.Goals as goal

pub returns : goal.returns
returns c =
    let few : length c.args.entries.now ≤ c.args.next = search rules in
    let most : c.args.next ≤ 65536 = search rules in (
      λ e. (let parts = and_parts c.are_named.result c.are_below.result e in
          record { named = c.are_named.ensures.0 parts.0; below = c.are_below.ensures.0 parts.1; few = few; most = most }),
      λ is. rw (c.are_named.ensures.1 is.named, c.are_below.ensures.1 is.below) refl,
    )
