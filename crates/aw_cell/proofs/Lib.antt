mod Casts
mod CellLaws
mod NumberLaws
mod Numerals
mod Padding
mod Quotient
mod RangeLaws
mod RoundedAlone
mod Rounding
mod TableLaws
mod Utf8
mod Worked
pub mod callers
mod NumeralSteps
