-- Lemmas that are offered to the crates above.
pub mod Lines
