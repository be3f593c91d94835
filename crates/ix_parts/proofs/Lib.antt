pub mod ByteLemmas
pub mod DivisionLemmas
pub mod QueueLemmas
