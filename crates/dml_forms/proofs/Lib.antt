pub mod CallerLemmas
mod Answering
mod Found
mod Fronts
mod Only
mod Parts
