pub mod Definitions
pub mod Checking
pub mod RecordLength
pub mod inside
