mod Texts
mod FirstPlaces
mod Worked
pub mod Seeing
pub mod Begins
mod NamedFormulas
mod SessionChecks
mod EffectsMeant
mod Evaluating
mod Maintaining
mod Faults
mod HeldCells
mod Parts
mod ReadyOnes
mod SeenObjects
pub mod AnswerLines
pub mod callers
