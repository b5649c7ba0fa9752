pub mod SessionLemmas
pub mod StopLemmas
pub mod ArchiveLemmas
pub mod PartLemmas
pub mod PlanLemmas
pub mod StageLemmas
