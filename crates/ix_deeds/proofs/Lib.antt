pub mod Lists
pub mod Parts
pub mod Holding
pub mod Passing
pub mod Going
pub mod Rings
