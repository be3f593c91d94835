pub mod Chunks
pub mod Calls
pub mod Events
