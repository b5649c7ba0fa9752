pub mod Blocks
pub mod Forgetting
pub mod Counts
