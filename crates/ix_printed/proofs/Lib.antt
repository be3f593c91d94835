pub mod Names
pub mod Once
pub mod Shorts
pub mod Unprinted
