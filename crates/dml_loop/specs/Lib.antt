pub mod Evaluation
pub mod Fixes
pub mod Laws
pub mod Loops
pub mod inside
