pub mod Seeing
pub mod Held
pub mod Expressions
pub mod Evaluating
pub mod Laws
pub mod inside
