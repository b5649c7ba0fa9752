pub mod RuleLemmas
pub mod SendLemmas
pub mod StandLemmas
