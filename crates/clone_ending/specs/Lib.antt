pub mod Left
pub mod Unread
pub mod Service
