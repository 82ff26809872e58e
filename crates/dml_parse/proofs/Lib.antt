mod Answers
mod BlockLoops
mod InsideSteps
mod Rules
