pub mod Laid
pub mod Marked
pub mod Redo
pub mod Sized
pub mod Copying
