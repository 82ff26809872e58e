mod Acts
pub mod CallerLemmas
mod Closing
mod Ends
mod Lists
mod Seating
mod Steps
