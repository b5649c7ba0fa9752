pub mod MarkLemmas
pub mod RowsLemmas
