pub mod Coord
pub mod Faults
pub mod Lending
pub mod inside
