pub mod Choices
pub mod Stages
pub mod Frames
pub mod Reading
pub mod Answers
pub mod Spelling
pub mod Ranges
