pub mod Choices
pub mod Ranges
pub mod Spelling
pub mod Reading
pub mod Answers
pub mod Binlog
pub mod Following
pub mod Histories
