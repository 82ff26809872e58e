-- What each part reads, by its rule.
pub use Rattle.dml_grammar.proofs.callers.Steps.{reads_is, same_part}
