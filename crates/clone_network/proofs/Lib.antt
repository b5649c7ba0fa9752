pub mod CourseLemmas
pub mod EndedLemmas
pub mod GivingLemmas
pub mod KeptLemmas
pub mod StepLemmas
