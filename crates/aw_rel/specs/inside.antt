-- What private functions alone need.
pub mod Tables
pub mod Clearing
