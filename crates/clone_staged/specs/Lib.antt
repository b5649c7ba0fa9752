pub mod Staged
pub mod Holds
