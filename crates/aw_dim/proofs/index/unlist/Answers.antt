use Rattle.std.proofs.Common.{◌≡◌, ◌<◌, ap, remove, length, rules, arith}
use Rattle.std.proofs.lemmas.Option.{slice_get_within}
use Rattle.aw_dim.proofs.NameIndexes.{stands_at, listed-remove, ranks_by}
use Rattle.aw_dim.proofs.index.unlist.Goals as goal

pub remove-requires : goal.remove-requires
remove-requires c =
    let within : c.rank-at.result < length c.args.by_name.now.items = slice_get_within c.args.by_name.now.items c.rank-at.result c.args.value.now.0
    (stands_at c.args.entries.now c.args.places.now c.requires.placed c.args.value.now.0 c.args.value.now.1 c.requires.value c.args.by_name.now.items c.rank-at.result c.requires.listed (ranks_by c.args.entries.now c.args.places.now c.args.by_name.now.items c.as_slice.result.now c.args.value.now.1 c.bytes.result.now c.rank-at.result c.as_slice.ensures.value c.bytes.ensures.value c.rank-at.ensures.splits))
    in omega (arith, within, ap length c.as_slice.ensures.value)

pub returns-clause-listed : goal.returns-clause-listed
returns-clause-listed c =
    let taken : c.remove.new.self.items ≡ remove c.args.by_name.now.items c.rank-at.result = search rules in
    rw taken (listed-remove c.args.entries.now c.args.places.now c.requires.placed c.args.value.now.0 c.args.value.now.1 c.requires.value c.args.by_name.now.items c.rank-at.result c.requires.listed (ranks_by c.args.entries.now c.args.places.now c.args.by_name.now.items c.as_slice.result.now c.args.value.now.1 c.bytes.result.now c.rank-at.result c.as_slice.ensures.value c.bytes.ensures.value c.rank-at.ensures.splits))
