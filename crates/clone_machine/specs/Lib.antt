pub mod Sharing
pub mod Running
pub mod Watching
