-- What private functions alone need.
pub mod NumberedMap
pub mod NumberedPages
pub mod Sheets
pub mod Unpacking
pub mod Shared
pub mod Walks
pub mod Differences
