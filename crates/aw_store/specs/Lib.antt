pub mod Stores
pub mod Laws
pub mod inside
pub mod StoredRecords
