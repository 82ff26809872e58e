pub mod Free
pub mod Meaning
pub mod Operators
pub mod CodeRuns
pub mod StackView
pub mod Verified
pub mod inside
