use Rattle.std.proofs.Common.{ℕ, List, ◌≡◌, ◌++◌, ◌∙◌, ap, take, drop, length, rules}
use Rattle.std.specs.List.Sorted.{IsSortedBy}
use Rattle.std.specs.Ordering.{nat_cmp}
use Rattle.std.specs.Cmp.Lexicographic.{slice_cmp}
use Rattle.std.proofs.lemmas.Cmp.{nat_list_cmp_total}
use Rattle.std.proofs.lemmas.List.Sorted.{ranks_by}
use Rattle.std.proofs.lemmas.Fn.{always_returns_same}
use Rattle.aw_dim.specs.inside.Index.{indexed_name, precedes}
use Rattle.aw_dim.proofs.Editing.{all_written}
use Rattle.aw_dim.proofs.making.by_name.Goals as goal

pub returns-clause-sorted : goal.returns-clause-sorted
returns-clause-sorted c =
    let rest : length c.sort_unstable_by.new.self ≡ c.in_ok-slots.slots.len = search rules in
    let all : length c.in_ok-slots.slots.items ≡ c.in_ok-slots.slots.len = search rules in
    let whole : take c.in_ok-slots.slots.len (c.sort_unstable_by.new.self ++ drop (length c.sort_unstable_by.new.self) c.in_ok-slots.slots.items) ≡ c.sort_unstable_by.new.self = all_written c.in_ok-slots.slots.len c.sort_unstable_by.new.self c.in_ok-slots.slots.items rest all in
    let sorted : IsSortedBy (λ one other. precedes (indexed_name c.args.entries.now c.args.places.now one) (indexed_name c.args.entries.now c.args.places.now other)) c.sort_unstable_by.new.self =
    c.sort_unstable_by.ensures.sorted (λ one other. precedes (indexed_name c.args.entries.now c.args.places.now one) (indexed_name c.args.entries.now c.args.places.now other))
    (ranks_by nat_list_cmp_total (indexed_name c.args.entries.now c.args.places.now)) (always_returns_same _ _ _ (λ a r f k. search rules)) in
    rw whole sorted
