pub mod Chunks
pub mod Lives
pub mod Stages
pub mod Bitmaps
pub mod Causes
pub mod CauseTexts
pub mod Plans
pub mod Partials
