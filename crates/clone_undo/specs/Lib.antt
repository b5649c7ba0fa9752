pub mod Entries
pub mod Places
pub mod Slots
pub mod Changes
