pub mod Composing
pub mod Rising
pub mod CallerLemmas
pub mod DifferenceForm
pub mod callers
