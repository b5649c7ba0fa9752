pub mod Entries
pub mod Bases
pub mod CoverLemmas
pub mod OverlayImageLemmas
pub mod FetchLemmas
pub mod RecordLemmas
pub mod OpenLemmas
pub mod Counts
