pub mod Spellings
pub mod Formats
pub mod Records
pub mod RecordFormat
pub mod Decoding
pub mod Laws
pub mod inside
pub mod Parsing
