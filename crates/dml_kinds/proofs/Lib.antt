pub mod CallerLemmas
pub mod DimensionsOfTrees
pub mod ExpressionAnswers
mod Worked
