pub mod Division
pub mod Queue
pub mod Numbered
