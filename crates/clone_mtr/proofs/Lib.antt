pub mod Items
pub mod Spellings
pub mod Decoding
pub mod LeftLemmas
pub mod Unique
pub mod Pieces
