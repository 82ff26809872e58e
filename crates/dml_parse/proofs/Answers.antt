-- The clauses of the public answers follow from what was read.
pub use Rattle.dml_grammar.proofs.callers.Answers.{accepted, exact, refused, cause, at_place}
