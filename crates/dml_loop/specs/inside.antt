-- What private functions alone need.
pub mod Counting
pub mod Progress
pub mod Turning
pub mod Wheels
