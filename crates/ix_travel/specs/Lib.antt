pub mod Things
pub mod Loads
