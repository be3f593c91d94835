pub mod Wholes
pub mod Stays
pub mod Counts
