pub mod Lines
pub mod Strays
pub mod Outcome
pub mod Sheet
pub mod Ranges
pub mod Play
