pub mod ChunkLemmas
pub mod MarkLemmas
pub mod ForgetLemmas
pub mod RunLemmas
pub mod PartialLemmas
