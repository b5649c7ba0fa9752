pub mod BytePieceLemmas
pub mod Entries
pub mod Edits
pub mod Headers
pub mod Effects
