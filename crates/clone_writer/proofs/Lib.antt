pub mod Common
pub mod Effects
pub mod Sparing
pub mod Agreeing
pub mod Numbers
