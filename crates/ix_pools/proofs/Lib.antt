pub mod Pools
pub mod Rings
