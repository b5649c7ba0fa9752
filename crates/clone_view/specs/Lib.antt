pub mod Rows
pub mod Tables
pub mod Applying
pub mod Frames
pub mod Donors
pub mod Views
