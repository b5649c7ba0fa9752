pub mod Commands
pub mod Telling
pub mod Following
pub mod Serving
pub mod Runs
pub mod Stepping
