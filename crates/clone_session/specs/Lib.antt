pub mod Cloning
pub mod CloneCauses
pub mod Effects
pub mod CloneCalls
