pub mod CallerLemmas
mod Telling
