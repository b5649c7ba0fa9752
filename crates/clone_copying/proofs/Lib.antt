mod ActLemmas
mod ByteLemmas
mod CallLemmas
pub mod CallingLemmas
mod ConnectLemmas
mod FetchLemmas
mod LoopLemmas
mod OnceLemmas
mod PassingLemmas
mod RecipientLemmas
mod TalkLemmas
pub mod ThreadLemmas
mod TurnLemmas
mod WatchLemmas
