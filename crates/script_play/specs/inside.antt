-- What private functions alone need.
pub mod LineSteps
pub mod ScriptReading
pub mod Playing
pub mod Drafts
pub mod StoreWorlds
pub mod Telling
