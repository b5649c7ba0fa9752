pub mod NumberLemmas
pub mod Choices
pub mod PieceLemmas
pub mod Parts
