pub mod Each
pub mod ViewState
pub mod Rules
pub mod Fit
pub mod Recording
pub mod Laws
pub mod inside
