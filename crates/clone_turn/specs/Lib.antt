pub mod Runs
pub mod Seats
pub mod Parts
pub mod Worked
pub mod Shares
pub mod Joined
pub mod Rule
pub mod Adding
