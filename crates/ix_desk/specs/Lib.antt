pub mod Views
pub mod Pieces
pub mod Tenures
pub mod Groups
pub mod Steps
pub mod Desks
pub mod Failures
