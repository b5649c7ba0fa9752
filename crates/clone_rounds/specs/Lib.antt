pub mod World
pub mod Idle
pub mod Awaiting
pub mod Steps
pub mod Fitting
pub mod Measure
pub mod Ending
