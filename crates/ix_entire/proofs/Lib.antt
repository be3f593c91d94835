pub mod Lists
pub mod Course
pub mod Rest
pub mod Weights
pub mod Close
pub mod Whole
