-- What private functions and the invariants of the types need.
pub mod Rule
pub mod Seats
pub mod Steps
