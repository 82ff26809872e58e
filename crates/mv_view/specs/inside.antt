-- What private functions alone need.
pub mod Holding
pub mod Places
pub mod Steps
