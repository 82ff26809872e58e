use Rattle.std.proofs.Common.{rules}
use Rattle.std.proofs.lemmas.List.Sorted.{IsPartitionPoint-from_clause}
use Rattle.aw_dim.specs.inside.Index.{indexed_name, precedes}
use Rattle.aw_dim.proofs.index.rank.Goals as goal

pub returns-clause-splits : goal.returns-clause-splits
returns-clause-splits c = λ parted.
    IsPartitionPoint-from_clause (λ slot. precedes (indexed_name c.args.entries.now c.args.places.now slot) c.args.name.now) _ _ c.partition_point.ensures.partitioned parted (λ a r q k. search rules)
