pub mod Alone
mod Asked
mod Away
mod AwayDonor
mod AwayTasks
mod AwaySteps
mod AwayRefused
pub mod Over
pub mod Between
pub mod DonorTalks
pub mod Aside
pub mod TaskTalks
