pub mod Closing
pub mod Worked
