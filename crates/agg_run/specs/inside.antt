-- What private functions alone need.
pub mod Folds
pub mod Levels
pub mod Passes
pub mod Cells
pub mod Lines
pub mod Sharing
