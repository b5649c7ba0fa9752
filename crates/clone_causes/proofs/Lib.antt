pub mod CountLemmas
pub mod DonorLemmas
pub mod StepLemmas
pub mod TableLemmas
pub mod NetLemmas
pub mod JobLemmas
pub mod DoneLemmas
pub mod CauseLemmas
