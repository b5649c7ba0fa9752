pub mod Donor
pub mod Causes
pub mod Effects
pub mod Calls
pub mod Answers
pub mod Locked
