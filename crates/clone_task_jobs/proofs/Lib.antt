pub mod DeskLemmas
pub mod ServeLemmas
pub mod FetchLemmas
pub mod TaskThreadLemmas
