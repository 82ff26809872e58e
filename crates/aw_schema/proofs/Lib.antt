pub mod Accepting
pub mod Adding
pub mod callers
