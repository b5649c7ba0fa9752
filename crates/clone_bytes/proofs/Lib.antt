pub mod Numbers
pub mod Answers
pub mod Formats
pub mod Fields
pub mod FirstBytes
