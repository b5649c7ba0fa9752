pub mod Ways
pub mod Connections
pub mod Ends
pub mod Held
pub mod Nets
