-- What private functions alone need.
pub mod Emitted
pub mod Library
