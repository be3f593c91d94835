pub mod Short
pub mod Entries
pub mod Reading
