-- What private functions alone need.
pub mod MemDiskSteps
pub mod PickedImages
