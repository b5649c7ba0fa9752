pub mod Indexes
pub mod Claims
pub mod Life
pub mod BitmapLemmas
