pub mod Numbers
pub mod Aggregates
pub mod Calls
pub mod Laws
pub mod inside
