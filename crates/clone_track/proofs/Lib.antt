pub mod PageSets
pub mod RunLemmas
