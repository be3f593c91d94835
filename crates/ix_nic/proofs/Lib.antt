pub mod Answered
pub mod Carried
pub mod CardLemmas
pub mod Entries
pub mod Kept
pub mod PortLemmas
