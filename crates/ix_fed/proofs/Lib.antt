pub mod Joined
pub mod Fed
