pub mod World
pub mod Events
pub mod Runs
pub mod BreaksOff
pub mod Headline
