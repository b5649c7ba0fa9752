pub mod Bytes
pub mod Kinds
pub mod Header
pub mod Slots
pub mod Dictionary
