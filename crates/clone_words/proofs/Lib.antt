pub mod Building
pub mod Rows
pub mod Walks
pub mod Found
pub mod Entered
pub mod Values
