pub mod Said
pub mod Turns
pub mod Upkeep
pub mod Writing
pub mod Written
