pub mod Points
pub mod Settles
pub mod Answer
