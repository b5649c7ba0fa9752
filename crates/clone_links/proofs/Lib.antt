pub mod CallLemmas
pub mod CauseLemmas
pub mod CarryLemmas
pub mod TurnLemmas
pub mod LoopLemmas
pub mod ServerThreadLemmas
