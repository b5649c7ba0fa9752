pub mod Refusals
pub mod Copies
pub mod Slots
pub mod Readings
pub mod Increments
pub mod Tracked
pub mod Histories
pub mod Noting
