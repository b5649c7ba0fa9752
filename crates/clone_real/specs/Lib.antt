pub mod Kinds
pub mod Names
pub mod Real
pub mod Sockets
pub mod Streams
