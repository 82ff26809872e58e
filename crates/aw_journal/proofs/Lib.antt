pub mod Steps
pub mod Torn
pub mod Loading
pub mod Bytes
pub mod Answering
pub mod CallerLemmas
mod Worked
pub mod callers
pub mod FramesRead
pub mod JournalImages
