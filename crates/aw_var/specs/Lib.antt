pub mod CellMap
pub mod CellPatch
pub mod Pages
pub mod Variable
pub mod SameContents
pub mod Laws
pub mod inside
