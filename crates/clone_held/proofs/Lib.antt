pub mod HeardLemmas
pub mod TakenLemmas
pub mod CourseLemmas
pub mod RunLemmas
pub mod HeldLemmas
