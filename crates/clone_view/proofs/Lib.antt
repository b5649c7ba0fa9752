pub mod Rows
pub mod Applying
pub mod TableSteps
pub mod ViewSteps
pub mod DonorSteps
pub mod Meets
pub mod Sends
pub mod Going
