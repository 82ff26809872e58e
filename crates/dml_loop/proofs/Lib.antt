mod AllOf
mod WheelTurns
mod Products
mod EachPlace
mod Worked
mod AssignedPlaces
pub mod CallerLemmas
