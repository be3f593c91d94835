pub mod Heads
pub mod Given
pub mod Sending
pub mod Parts
pub mod Expiry
