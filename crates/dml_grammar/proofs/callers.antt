-- Lemmas that are offered to the crates above.
pub mod Answering
pub mod Answers
pub mod Steps
pub mod Trees
