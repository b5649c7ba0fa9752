pub mod Patches
pub mod Records
pub mod Spelling
pub mod References
pub mod Effects
pub mod Reading
pub mod Left
pub mod Answers
