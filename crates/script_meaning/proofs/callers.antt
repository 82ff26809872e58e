-- Lemmas that are offered to the crates above.
pub mod AllDone
pub mod Defining
pub mod LineDefinitions
pub mod StoreRuns
pub mod TakingTurns
pub mod StoreAttempts
pub mod AttemptCrashes
pub mod ObjectsSimulation
