pub mod Calls
pub mod Edits
pub mod SameValues
pub mod inside
pub mod DimensionState
