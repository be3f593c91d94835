pub mod Ports
pub mod Controls
pub mod Cards
pub mod Offers
pub mod Held
pub mod Words
pub mod Entries
