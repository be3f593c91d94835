pub mod Homes
pub mod Cores
pub mod Going
pub mod Clear
pub mod Begins
