-- Lemmas that are offered to the crates above.
pub mod SessionPlaces
pub mod ViewsOfDefinitions
pub mod ReadySessions
pub mod ReadyLines
pub mod GuardedValues
