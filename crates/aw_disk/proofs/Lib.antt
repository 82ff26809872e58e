pub mod Leaving
pub mod Picking
pub mod Steps
pub mod PickedImages
