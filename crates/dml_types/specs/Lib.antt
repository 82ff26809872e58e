pub mod Checking
pub mod Statements
pub mod inside
