-- Lemmas that are offered to the crates above.
pub mod Each
pub mod Frames
pub mod Unique
