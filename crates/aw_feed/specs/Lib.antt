pub mod Feed
pub mod Listener
pub mod MemListener
