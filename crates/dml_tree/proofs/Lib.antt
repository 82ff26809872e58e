mod Answered
mod Forms
mod Fronts
mod LineWalk
mod Once
mod Named
mod NumeralLength
mod Numerals
mod Quotes
mod Symbols
mod TokensFound
mod WordTable
pub mod callers
