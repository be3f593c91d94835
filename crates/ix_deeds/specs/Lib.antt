pub mod Acts
pub mod Right
pub mod Going
pub mod Rings
