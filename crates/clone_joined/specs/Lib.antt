pub mod Runs
pub mod Carried
pub mod Strangers
pub mod Joined
pub mod Lending
