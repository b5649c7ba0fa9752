pub mod EndMarks
pub mod PlacedPages
pub mod AbsentPages
pub mod StagedImages
pub mod AlikeImages
pub mod KeptImages
pub mod WholeChains
pub mod HeldCopies
