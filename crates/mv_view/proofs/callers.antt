-- Lemmas that are offered to the crates above.
pub mod Changes
pub mod Committing
pub mod Each
pub mod Fitting
pub mod Forms
pub mod Recording
pub mod OwnedObjects
