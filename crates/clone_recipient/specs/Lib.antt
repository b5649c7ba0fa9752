pub mod Refusals
pub mod Receptions
pub mod Expecting
pub mod Taking
pub mod Showing
pub mod Record
