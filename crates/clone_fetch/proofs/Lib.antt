pub mod FetchedLemmas
pub mod KeptLemmas
pub mod StepLemmas
