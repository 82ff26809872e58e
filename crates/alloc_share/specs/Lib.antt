pub mod Laws
pub mod Places
pub mod Shares
pub mod inside
