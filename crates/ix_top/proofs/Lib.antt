pub mod Checks
pub mod Fronts
pub mod Meanings
pub mod Runs
