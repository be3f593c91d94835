pub mod Told
pub mod Filed
pub mod Laws
