pub mod Tables
pub mod Rules
pub mod Sending
pub mod Awaiting
pub mod Moves
pub mod Losing
