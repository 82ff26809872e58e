mod Lines
mod Tables
mod WholeDumps
mod Written
pub mod callers
