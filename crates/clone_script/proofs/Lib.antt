pub mod Cuts
pub mod Texts
pub mod ReadLines
pub mod FieldTexts
pub mod LineTexts
