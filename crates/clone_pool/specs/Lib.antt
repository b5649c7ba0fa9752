pub mod Frames
pub mod Index
pub mod Orders
pub mod Pool
pub mod Row
pub mod Tournament
