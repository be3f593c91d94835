pub mod Echo
pub mod Side
