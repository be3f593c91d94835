pub mod Few
pub mod Lines
pub mod Named
pub mod Next
pub mod Runs
