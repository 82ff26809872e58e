pub mod inside
pub mod Runs
