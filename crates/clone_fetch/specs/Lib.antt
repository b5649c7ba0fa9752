pub mod Fetching
pub mod Fetched
