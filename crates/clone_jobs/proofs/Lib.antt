pub mod CallLemmas
pub mod TurnLemmas
pub mod WriterLemmas
pub mod PartLemmas
pub mod UpkeepLemmas
pub mod WritingLemmas
pub mod JobThreadLemmas
