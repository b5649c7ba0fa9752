pub mod BlankLemmas
pub mod CountLemmas
pub mod ExpectLemmas
pub mod MarkLemmas
pub mod RecordLemmas
pub mod SizeLemmas
pub mod StepLemmas
