pub mod Lines
pub mod Given
pub mod Script
pub mod Fields
pub mod Reading
