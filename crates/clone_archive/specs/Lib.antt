pub mod Archived
pub mod BlockList
