pub mod Options
pub mod Commands
pub mod Refusals
pub mod Local
