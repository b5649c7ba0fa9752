mod RecordLemmas
mod RunLemmas
mod CallLemmas
pub mod SettleLemmas
pub mod DeskThreadLemmas
