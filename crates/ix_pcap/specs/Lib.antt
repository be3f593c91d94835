pub mod Capture
pub mod Written
