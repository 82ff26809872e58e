pub mod CallerLemmas
pub mod Steps
pub mod Loops
pub mod OneChild
pub mod WhatIsLeft
pub mod Filling
pub mod Within
pub mod Checking
