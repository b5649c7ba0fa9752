pub mod Common
pub mod CompleteLemmas
pub mod FollowerLemmas
pub mod RunLemmas
pub mod BinlogLemmas
pub mod StopLemmas
mod LineLemmas
pub mod SetLemmas
pub mod ReachedLemmas
