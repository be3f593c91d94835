pub mod Sessions
pub mod Growth
