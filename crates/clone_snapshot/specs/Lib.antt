pub mod StageLists
pub mod Snaps
pub mod Blocks
pub mod Resets
