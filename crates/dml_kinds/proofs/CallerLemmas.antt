-- Lemmas for crates above.
pub use Rattle.dml_kinds.proofs.DimensionsOfTrees.{same_dimensions}
