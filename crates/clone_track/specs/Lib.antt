pub mod TrackedPages
pub mod SortedRuns
