use Rattle.std.proofs.Common.{◌≡◌, ◌≤◌, insert, length, rules}
use Rattle.aw_dim.proofs.NameIndexes.{listed-insert, ranks_by}
use Rattle.aw_dim.proofs.index.enlist.Goals as goal

pub returns-clause-listed : goal.returns-clause-listed
returns-clause-listed c =
    let put : c.insert.new.self.items ≡ insert c.args.by_name.now.items c.rank-at.result c.args.value.now.0 = search rules in
    rw put (listed-insert c.args.entries.now c.args.places.now c.requires.placed c.args.value.now.0 c.args.value.now.1 c.requires.value c.args.by_name.now.items c.rank-at.result (search rules) c.requires.listed c.requires.unused (ranks_by c.args.entries.now c.args.places.now c.args.by_name.now.items c.as_slice.result.now c.args.value.now.1 c.bytes.result.now c.rank-at.result c.as_slice.ensures.value c.bytes.ensures.value c.rank-at.ensures.splits))
