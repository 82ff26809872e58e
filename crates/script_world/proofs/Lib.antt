pub mod Turns
pub mod callers
