pub mod LinkRunLemmas
pub mod EndViewLemmas
pub mod SendLemmas
pub mod JoinedEndLemmas
pub mod ConnectionLemmas
pub mod EndThreadLemmas
pub mod NetThreadLemmas
