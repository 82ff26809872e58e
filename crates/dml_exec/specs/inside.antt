-- What private functions alone need.
pub mod Arrivals
pub mod MachineSteps
