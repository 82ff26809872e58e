pub mod callers
mod Fitting
mod Limiting
