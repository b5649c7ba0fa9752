pub mod Reading
pub mod Lending
pub mod Passing
