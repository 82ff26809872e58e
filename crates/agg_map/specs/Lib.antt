pub mod Laws
pub mod Maps
pub mod Sound
pub mod Texts
pub mod inside
