pub mod Records
pub mod Desks
pub mod Steps
pub mod Settling
