pub mod Evaluated
pub mod HeldCells
pub mod SeenCells
pub mod SlotNames
pub mod Worked
pub mod Written
