pub mod GatherLemmas
pub mod ShuffleLemmas
