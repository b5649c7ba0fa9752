pub mod Serving
pub mod Fetching
