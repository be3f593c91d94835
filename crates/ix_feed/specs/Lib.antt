pub mod Replays
pub mod Feeding
pub mod Turns
pub mod Laws
pub mod Told
