pub mod Arguments
pub mod DimensionsOfStatements
pub mod StatementAnswers
mod Worked
