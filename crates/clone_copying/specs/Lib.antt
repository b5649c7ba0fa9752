pub mod Calling
pub mod Calls
pub mod Connecting
pub mod Fetching
pub mod Passing
pub mod Turning
pub mod Watching
