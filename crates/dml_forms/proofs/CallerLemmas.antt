-- For a crate that reads a grammar: what its parts read, by their rules, and what follows for its answers.
pub use Rattle.dml_forms.proofs.Parts.{reading_is, shrinks}
pub use Rattle.dml_forms.proofs.Answering.{answer_accepted, answer_refused, answer_exact, not_both, one_place}
