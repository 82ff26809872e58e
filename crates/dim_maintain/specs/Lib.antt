pub mod Maintained
pub mod Causes
pub mod Laws
