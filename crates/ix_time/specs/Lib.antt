pub mod Entries
pub mod Places
pub mod Standings
pub mod Slots
pub mod Wheel
pub mod Due
