pub mod Heads
pub mod Work
pub mod Checks
pub mod Acknowledgement
pub mod Text
pub mod Opening
pub mod Arrived
pub mod Verdict
