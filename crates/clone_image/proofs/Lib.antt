pub mod Records
pub mod RowMapLemmas
pub mod ImageRowLemmas
pub mod Images
pub mod Logs
pub mod Pages
pub mod Standings
pub mod RedoLemmas
