-- What private functions alone need.
pub mod Plain
pub mod Texts
