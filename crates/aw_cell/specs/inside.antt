-- What private functions alone need.
pub mod PaddedText
pub mod NumeralSteps
