pub mod Common
pub mod OpenLemmas
pub mod ValueLemmas
pub mod LockLemmas
pub mod HolderLemmas
pub mod DropLemmas
