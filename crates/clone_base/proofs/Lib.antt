pub mod Lists
pub mod MapEntries
pub mod OrderedMaps
