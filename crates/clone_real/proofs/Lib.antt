pub mod Waiting
pub mod SocketThreadLemmas
