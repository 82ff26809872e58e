-- Lemmas that are offered to the crates above.
pub mod Commits
pub mod Following
pub mod Spellings
pub mod StandingObjects
pub mod SharedReplies
