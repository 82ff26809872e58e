-- What private functions alone need.
pub mod ReplaySteps
pub mod PayloadRecords
