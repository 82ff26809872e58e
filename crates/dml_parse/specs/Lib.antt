pub mod Inside
pub mod Nesting
