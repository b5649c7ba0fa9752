pub mod Calling
pub mod Ending
pub mod Serving
pub mod Turning
