pub mod Ends
pub mod JoinedListLemmas
pub mod Pieces
pub mod BlockListLemmas
