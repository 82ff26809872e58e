mod Each
mod Forms
mod Making
mod Blocking
mod Prepares
mod FirstObjects
mod StepLaws
mod Refusals
pub mod CallerLemmas
