pub mod EndLemmas
pub mod FairLemmas
pub mod FavouredLemmas
pub mod LoadLemmas
pub mod OutcomeLemmas
pub mod RecoveringLemmas
pub mod RunLemmas
