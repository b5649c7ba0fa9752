pub mod Image
pub mod Replay
pub mod Rows
pub mod Redone
pub mod Recovered
pub mod Added
