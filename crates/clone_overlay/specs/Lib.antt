pub mod Images
pub mod Covers
pub mod Shown
pub mod Answers
pub mod Opened
