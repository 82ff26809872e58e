-- Lemmas for crates above.
pub use Rattle.aw_rel.proofs.Loops.{no_far, within-some}
pub use Rattle.aw_rel.proofs.OneChild.{filter_among, among_filter, child_parent, parent_child, leaves_are_of_one_child}
pub use Rattle.aw_rel.proofs.Steps.{or_left, or_right, number_itself, same_number, same_tests, some_same, test_of_slot, leads_of, above_by, before, up-add}
