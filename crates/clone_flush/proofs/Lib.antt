pub mod FlightLemmas
pub mod FileLemmas
pub mod BeginLemmas
pub mod SpaceLemmas
