pub mod WriteLemmas
pub mod EntryLemmas
pub mod RoomLemmas
