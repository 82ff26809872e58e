pub mod Meaning
pub mod Script
pub mod Worlds
pub mod Outcomes
pub mod Laws
pub mod Faults
pub mod LearntOutcomes
pub mod SettledRuns
